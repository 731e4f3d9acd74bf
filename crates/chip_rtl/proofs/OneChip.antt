-- No list of tokens is two chips, since none is two modules.
use Rattle.std.proofs.Common.{◌≡◌, ℕ, Bool, true, false, cond, List, [], ◌∷◌, ◌++◌, map, drop, Option, Some, None, codes, refl, sym, ap, arith, ◌∙◌, subst, append_assoc, append-nil}
use Rattle.std.proofs.lemmas.Slice.Eq.{bytes_eq-Decides}
use Rattle.std.specs.Str.{bytes_eq}
use Rattle.bist_text.specs.Machine.{Holds}
use Rattle.bist_text.specs.ReservedWords.{is_among, reserved_words}
use Rattle.verilog_tree.specs.Plain.{ModuleTree}
use Rattle.verilog_tree.specs.declared.tokens.Mark.TheVariants.{Open, Close, Comma, Semicolon, Equals, FullStop}
use Rattle.verilog_tree.specs.declared.tokens.Mark.{Mark}
use Rattle.verilog_tree.specs.declared.tree.Dir.TheVariants.{Input}
use Rattle.verilog_tree.specs.Tokens.{mark_text, Token, Identifier, Number, Based, Unused, Sign}
use Rattle.verilog_tree.specs.Grammar.{Limit, Parenthesised, Item, Wires, Regs, Drives, Always, File, is_sign, sign, keyword, name, inside, deeper, item, item_tree, items_tree, range, names, expr, port, ports, port_tree, ports_tree, no_token, file_tree}
use Rattle.verilog_tree.specs.Spells.{Derives, bounded}
use Rattle.chip_rtl.specs.ChipTree.{LinkTree, PlacedTree, TopTree}
use Rattle.chip_rtl.specs.ChipGrammar.{PlacedModule, TopFile, link, links, own_item, own_items, placed, all_placed, top, placed_tree, top_tree, ChipTokens}
use Rattle.chip_rtl.proofs.Cuts.{Free, Cut, joined, nothing, never, sign_cut, keyword_cut, name_cut, o, by_when, no_more}
use Rattle.chip_rtl.proofs.CutGrammar.{Harmless, e, rg, ns, pt, pts, fl}

abbrev L : Limit
L = bounded

true_false : true ≡ false → ⊥
true_false q = cc

by_true : (t : Bool) → (t ≡ true → ⊥) → t ≡ false
by_true true h = absurd (h refl)
by_true false h = refl

-- ---- where a list is split at the first token of a kind

front : List Token → Token
front [] = Unused
front (t ∷ ts) = t

same_front : (x y : Token) (xs ys : List Token) → x ∷ xs ≡ y ∷ ys → x ≡ y
unfolding front
same_front x y xs ys q = ap front q

split_first : (bad : Token → Bool) (us vs : List Token) (x y : Token) (xs ys : List Token) → Free bad us → Free bad vs → bad x ≡ true → bad y ≡ true → us ++ x ∷ xs ≡ vs ++ y ∷ ys → (us ≡ vs) × (x ≡ y) × (xs ≡ ys)
split_first bad [] [] x y xs ys f g p q h = (refl, same_front x y xs ys h, ap (drop 1) h)
split_first bad [] (v ∷ vs) x y xs ys f g p q h = absurd (true_false (sym p ∙ ap bad (same_front x v xs (vs ++ y ∷ ys) h) ∙ g.0))
split_first bad (u ∷ us) [] x y xs ys f g p q h = absurd (true_false (sym q ∙ ap bad (sym (same_front u y (us ++ x ∷ xs) ys h)) ∙ f.0))
split_first bad (u ∷ us) (v ∷ vs) x y xs ys f g p q h =
    let r = split_first bad us vs x y xs ys f.1 g.1 p q (ap (drop 1) h) in
    (ap (λ t. t ∷ us) (same_front u v (us ++ x ∷ xs) (vs ++ y ∷ ys) h) ∙ ap (λ l. v ∷ l) r.0, r.1, r.2)

-- ---- the word endmodule, and the semicolon

is_end : Token → Bool
is_end (Identifier v) = bytes_eq v (codes "endmodule")
is_end (Number l n) = false
is_end (Based x) = false
is_end Unused = false
is_end (Sign m) = false

is_semi : Token → Bool
is_semi (Identifier v) = false
is_semi (Number l n) = false
is_semi (Based x) = false
is_semi Unused = false
is_semi (Sign m) = is_sign Semicolon m

same_bytes : (v w : List ℕ) → bytes_eq v w ≡ true → v ≡ w
same_bytes v w h = (bytes_eq-Decides v w).0 h

end_harmless : Harmless is_end
unfolding is_end
end_harmless = record {
  other = λ m h n q. refl;
  word = λ w h v q. ap (λ x. bytes_eq x (codes "endmodule")) (same_bytes v w q) ∙ h;
  named = λ v h. by_true (bytes_eq v (codes "endmodule")) (λ q. true_false (ap (λ x. is_among x reserved_words) (sym (same_bytes v (codes "endmodule") q)) ∙ h));
  numbers = λ l i. refl;
  literals = λ x. refl;
}

end_semi : Cut is_end (sign Semicolon)
unfolding is_end
end_semi = sign_cut L is_end Semicolon (λ n q. refl)

semi_harmless : Harmless is_semi
unfolding is_semi
semi_harmless = record {
  other = λ m h n q. ap (λ x. bytes_eq x (mark_text Semicolon)) (same_bytes (mark_text n) (mark_text m) q) ∙ h;
  word = λ w h v q. refl;
  named = λ v h. refl;
  numbers = λ l i. refl;
  literals = λ x. refl;
}

-- what begins with the word
record Ends (K : List Token → Type 0) (ts : List Token) : Type 0 where
  pub word : List ℕ
  pub rest : List Token
  pub is : ts ≡ Identifier word ∷ rest
  pub last : is_end (Identifier word) ≡ true
  pub next : K rest

ends_of : (K : List Token → Type 0) (ts : List Token) → keyword (codes "endmodule") K ts → Ends K ts
unfolding is_end
ends_of K [] h = absurd h
ends_of K (Identifier v ∷ ts) h = by_when L is_end (bytes_eq v (codes "endmodule")) h (λ q k. record { word = v; rest = ts; is = refl; last = q; next = k })
ends_of K (t ∷ ts) h = absurd h

record Stops (K : List Token → Type 0) (ts : List Token) : Type 0 where
  pub mark : Mark
  pub rest : List Token
  pub is : ts ≡ Sign mark ∷ rest
  pub last : is_semi (Sign mark) ≡ true
  pub next : K rest

stops_of : (K : List Token → Type 0) (ts : List Token) → sign Semicolon K ts → Stops K ts
unfolding is_semi
stops_of K [] h = absurd h
stops_of K (Sign m ∷ ts) h = by_when L is_semi (is_sign Semicolon m) h (λ q k. record { mark = m; rest = ts; is = refl; last = q; next = k })
stops_of K (t ∷ ts) h = absurd h

-- ---- pieces of which each token is told

record Both (K J : List Token → Type 0) : Type 0 where
  pub rest : List Token
  pub one : K rest
  pub other : J rest

name_same : (v w : List ℕ) (K J : List Token → Type 0) (ts : List Token) → name v K ts → name w J ts → (v ≡ w) × Both K J
name_same v w K J [] g h = absurd g
name_same v w K J (Identifier x ∷ ts) g h = (sym g.0 ∙ h.0, record { rest = ts; one = g.2; other = h.2 })
name_same v w K J (t ∷ ts) g h = absurd g

sign_same : (m : Mark) (K J : List Token → Type 0) (ts : List Token) → sign m K ts → sign m J ts → Both K J
sign_same m K J [] g h = absurd g
sign_same m K J (Sign n ∷ ts) g h = by_when L is_semi (is_sign m n) g (λ p k. by_when L is_semi (is_sign m n) h (λ q j. record { rest = ts; one = k; other = j }))
sign_same m K J (t ∷ ts) g h = absurd g

inside_same : (d : ℕ) (F G : ℕ → List Token → Type 0) (ts : List Token) → inside L d F ts → inside L d G ts → (q : ℕ) × F q ts × G q ts
inside_same d F G ts g h = by (deeper L d) g h
  where
    by : (w : Option ℕ) → Holds w (λ q. F q ts) → Holds w (λ q. G q ts) → (q : ℕ) × F q ts × G q ts
    by None g h = absurd g
    by (Some q) g h = (q, g, h)

not_both : mark_text Close ≡ mark_text Comma → ⊥
not_both q = true_false (ap (λ l. bytes_eq l (codes ")")) q)

differ : (m k n : Mark) → (mark_text m ≡ mark_text k → ⊥) → is_sign m n ≡ true → is_sign k n ≡ true → ⊥
differ m k n f p q = f (sym (same_bytes (mark_text n) (mark_text m) p) ∙ same_bytes (mark_text n) (mark_text k) q)

close_or_comma : (K J : List Token → Type 0) (ts : List Token) → sign Close K ts → sign Comma J ts → ⊥
close_or_comma K J [] g h = g
close_or_comma K J (Sign n ∷ ts) g h = by_when L is_semi (is_sign Close n) g (λ p k. by_when L is_semi (is_sign Comma n) h (λ q j. differ Close Comma n not_both p q))
close_or_comma K J (t ∷ ts) g h = g

same_link : (x y : LinkTree) → x.port ≡ y.port → x.net ≡ y.net → x ≡ y
same_link x y p q = rw (p, q) refl

link_same : (d : ℕ) (x y : LinkTree) (K J : List Token → Type 0) (ts : List Token) → link L d x K ts → link L d y J ts → (x ≡ y) × Both K J
link_same d x y K J ts g h =
    let k1 : List Token → Type 0 = name x.net (sign Close K) in
    let j1 : List Token → Type 0 = name y.net (sign Close J) in
    let k2 : List Token → Type 0 = sign Open (inside L d (λ q. k1)) in
    let j2 : List Token → Type 0 = sign Open (inside L d (λ q. j1)) in
    let a = sign_same FullStop (name x.port k2) (name y.port j2) ts g h in
    let b = name_same x.port y.port k2 j2 a.rest a.one a.other in
    let c = sign_same Open (inside L d (λ q. k1)) (inside L d (λ q. j1)) b.1.rest b.1.one b.1.other in
    let i = inside_same d (λ q. k1) (λ q. j1) c.rest c.one c.other in
    let n = name_same x.net y.net (sign Close K) (sign Close J) c.rest i.1 i.2 in
    (same_link x y b.0 n.0, sign_same Close K J n.1.rest n.1.one n.1.other)

links_same : (d : ℕ) (xs ys : List LinkTree) (K J : List Token → Type 0) (ts : List Token) → links L d xs (sign Close K) ts → links L d ys (sign Close J) ts → (xs ≡ ys) × Both K J
links_same d [] [] K J ts g h = (refl, sign_same Close K J ts g h)
links_same d [] (y ∷ ys) K J ts g h = absurd (close_or_comma K (link L d y (links L d ys (sign Close J))) ts g h)
links_same d (x ∷ xs) [] K J ts g h = absurd (close_or_comma J (link L d x (links L d xs (sign Close K))) ts h g)
links_same d (x ∷ xs) (y ∷ ys) K J ts g h =
    let k1 : List Token → Type 0 = links L d xs (sign Close K) in
    let j1 : List Token → Type 0 = links L d ys (sign Close J) in
    let a = sign_same Comma (link L d x k1) (link L d y j1) ts g h in
    let b = link_same d x y k1 j1 a.rest a.one a.other in
    let r = links_same d xs ys K J b.1.rest b.1.one b.1.other in
    (ap (λ z. z ∷ xs) b.0 ∙ ap (λ l. y ∷ l) r.0, r.1)

-- ---- the parts of a top

-- its head
abbrev head : TopFile → (List Token → Type 0) → List Token → Type 0
head f K = keyword (codes "module") (name f.name (sign Open (inside L 0 (λ q. port f.port (ports f.ports (sign Close K))))))

module _ (bad : Token → Bool) (safe : Harmless bad) where
  jj : (F G : (List Token → Type 0) → List Token → Type 0) → Cut bad F → Cut bad G → Cut bad (λ K. F (G K))
  jj F G f g = joined L bad F G f g

  s : (m : Mark) → is_sign Semicolon m ≡ false → Cut bad (sign m)
  s m p = sign_cut L bad m (safe.other m p)

  n : (w : List ℕ) → Cut bad (name w)
  n w = name_cut L bad w safe.named

  k : (w : List ℕ) → bytes_eq w (codes "endmodule") ≡ false → Cut bad (keyword w)
  k w p = keyword_cut L bad w (safe.word w p)

  head_cut : (f : TopFile) → Cut bad (head f)
  head_cut f = jj _ _ (k (codes "module") refl) (jj _ _ (n f.name) (jj _ _ (s Open refl) (o L bad 0 _ (λ q. jj _ _ (pt L bad safe f.port) (jj _ _ (pts L bad safe f.ports) (s Close refl))))))

  -- an item of its own, up to its semicolon
  abbrev own_body : Item → (List Token → Type 0) → List Token → Type 0
  own_body (Wires r w ws) K = keyword (codes "wire") (range r (name w (names ws K)))
  own_body (Drives w x) K = keyword (codes "assign") (name w (sign Equals (expr Parenthesised L 0 x K)))
  own_body (Regs r w ws) K = λ ts. ⊥
  own_body (Always c x) K = λ ts. ⊥

  body_cut : (i : Item) → Cut bad (own_body i)
  body_cut (Wires r w ws) = jj _ _ (k (codes "wire") refl) (jj _ _ (rg L bad safe r) (jj _ _ (n w) (ns L bad safe ws)))
  body_cut (Drives w x) = jj _ _ (k (codes "assign") refl) (jj _ _ (n w) (jj _ _ (s Equals refl) (e L bad safe 0 x)))
  body_cut (Regs r w ws) = never L bad
  body_cut (Always c x) = never L bad

  module _ (dot_safe : (m : Mark) → is_sign FullStop m ≡ true → bad (Sign m) ≡ false) (semi : Cut bad (sign Semicolon)) where
    link_cut : (d : ℕ) (x : LinkTree) → Cut bad (link L d x)
    link_cut d x = jj _ _ (sign_cut L bad FullStop dot_safe) (jj _ _ (n x.port) (jj _ _ (s Open refl) (o L bad d _ (λ q. jj _ _ (n x.net) (s Close refl)))))

    links_cut : (d : ℕ) (xs : List LinkTree) → Cut bad (links L d xs)
    links_cut d [] = nothing L bad
    links_cut d (x ∷ xs) = jj _ _ (s Comma refl) (jj _ _ (link_cut d x) (links_cut d xs))

    own_cut : (i : Item) → Cut bad (own_item L i)
    own_cut (Wires r w ws) = jj _ _ (body_cut (Wires r w ws)) semi
    own_cut (Drives w x) = jj _ _ (body_cut (Drives w x)) semi
    own_cut (Regs r w ws) = never L bad
    own_cut (Always c x) = never L bad

    owns_cut : (is : List Item) → Cut bad (own_items L is)
    owns_cut [] = nothing L bad
    owns_cut (i ∷ is) = jj _ _ (own_cut i) (owns_cut is)

    place_cut : (p : PlacedModule) → Cut bad (placed L p)
    place_cut p = jj _ _ (n p.unit) (jj _ _ (n p.name) (jj _ _ (s Open refl) (o L bad 0 _ (λ q. jj _ _ (link_cut q p.link) (jj _ _ (links_cut q p.links) (jj _ _ (s Close refl) semi))))))

    places_cut : (ps : List PlacedModule) → Cut bad (all_placed L ps)
    places_cut [] = nothing L bad
    places_cut (p ∷ ps) = jj _ _ (place_cut p) (places_cut ps)

    -- a top up to its last word
    abbrev top_body : TopFile → (List Token → Type 0) → List Token → Type 0
    top_body f K = keyword (codes "module") (name f.name (sign Open (inside L 0 (λ q. port f.port (ports f.ports (sign Close (sign Semicolon (own_items L f.items (all_placed L f.placed K)))))))))

    top_cut : (f : TopFile) → Cut bad (top_body f)
    top_cut f = jj _ _ (k (codes "module") refl) (jj _ _ (n f.name) (jj _ _ (s Open refl) (o L bad 0 _ (λ q. jj _ _ (pt L bad safe f.port) (jj _ _ (pts L bad safe f.ports) (jj _ _ (s Close refl) (jj _ _ semi (jj _ _ (owns_cut f.items) (places_cut f.placed)))))))))

-- ---- what an item begins with

-- 0 is the last word, 1 another reserved one, 2 a name
kind : Token → ℕ
kind (Identifier v) = cond (bytes_eq v (codes "endmodule")) 0 (cond (is_among v reserved_words) 1 2)
kind (Number l i) = 3
kind (Based x) = 3
kind Unused = 3
kind (Sign m) = 3

record Begins (i : ℕ) (ts : List Token) : Type 0 where
  pub token : Token
  pub rest : List Token
  pub is : ts ≡ token ∷ rest
  pub kind : kind token ≡ i

keyword_begins : (w : List ℕ) (i : ℕ) (K : List Token → Type 0) (ts : List Token) → kind (Identifier w) ≡ i → keyword w K ts → Begins i ts
keyword_begins w i K [] q h = absurd h
keyword_begins w i K (Identifier v ∷ ts) q h = by_when L is_semi (bytes_eq v w) h (λ p k. record { token = Identifier v; rest = ts; is = refl; kind = ap (λ x. kind (Identifier x)) (same_bytes v w p) ∙ q })
keyword_begins w i K (t ∷ ts) q h = absurd h

name_begins : (w : List ℕ) (K : List Token → Type 0) (ts : List Token) → name w K ts → Begins 2 ts
unfolding kind is_end
name_begins w K [] h = absurd h
name_begins w K (Identifier v ∷ ts) h = record { token = Identifier v; rest = ts; is = refl; kind = ap (λ b. cond b 0 (cond (is_among v reserved_words) 1 2)) (end_harmless.named v h.1) ∙ ap (λ b. cond b 1 2) h.1 }
name_begins w K (t ∷ ts) h = absurd h

clash : (i j : ℕ) (ts : List Token) → Begins i ts → Begins j ts → i ≡ j
clash i j ts a b = sym a.kind ∙ ap kind (same_front a.token b.token a.rest b.rest (sym a.is ∙ b.is)) ∙ b.kind

zero_one : ◌≡◌ {A = ℕ} 0 1 → ⊥
zero_one q = omega arith

zero_two : ◌≡◌ {A = ℕ} 0 2 → ⊥
zero_two q = omega arith

one_two : ◌≡◌ {A = ℕ} 1 2 → ⊥
one_two q = omega arith

tail : List Token
tail = Sign Semicolon ∷ Identifier (codes "endmodule") ∷ []

abbrev last : List Token → Type 0
last = keyword (codes "endmodule") no_token

module _ (one_file : (ts : List Token) (m n : ModuleTree) → Derives Parenthesised L ts m → Derives Parenthesised L ts n → m ≡ n) where
  -- ---- heads

  abbrev empty : TopFile → File
  empty f = record { name = f.name; port = f.port; ports = f.ports; items = [] }

  one_head : (f g : TopFile) (us : List Token) → head f no_token us → head g no_token us → file_tree (empty f) ≡ file_tree (empty g)
  unfolding tail
  one_head f g us a b =
      one_file (us ++ tail) (file_tree (empty f)) (file_tree (empty g))
      (empty f, (head_cut is_semi semi_harmless f).glue (sign Semicolon last) us tail a tt, refl)
      (empty g, (head_cut is_semi semi_harmless g).glue (sign Semicolon last) us tail b tt, refl)

  -- ---- items of its own

  abbrev body : Item → (List Token → Type 0) → List Token → Type 0
  body i K = own_body is_semi semi_harmless i K

  to_body : (i : Item) (K : List Token → Type 0) (ts : List Token) → own_item L i K ts → body i (sign Semicolon K) ts
  to_body (Wires r w ws) K ts h = h
  to_body (Drives w x) K ts h = h
  to_body (Regs r w ws) K ts h = h
  to_body (Always c x) K ts h = h

  own_begins : (i : Item) (K : List Token → Type 0) (ts : List Token) → own_item L i K ts → Begins 1 ts
  unfolding kind
  own_begins (Wires r w ws) K ts h = keyword_begins (codes "wire") 1 _ ts refl h
  own_begins (Drives w x) K ts h = keyword_begins (codes "assign") 1 _ ts refl h
  own_begins (Regs r w ws) K ts h = absurd h
  own_begins (Always c x) K ts h = absurd h

  abbrev small : Item → File
  small i = record { name = codes "m"; port = record { dir = Input; wire = false; range = None; name = codes "a" }; ports = []; items = i ∷ [] }

  item_at : (i : Item) (us : List Token) → body i no_token us → item Parenthesised L i last (us ++ tail)
  unfolding tail
  item_at (Wires r w ws) us h = (body_cut is_semi semi_harmless (Wires r w ws)).glue (sign Semicolon last) us tail h tt
  item_at (Drives w x) us h = (body_cut is_semi semi_harmless (Drives w x)).glue (sign Semicolon last) us tail h tt
  item_at (Regs r w ws) us h = absurd h
  item_at (Always c x) us h = absurd h

  abbrev around : List Token → List Token
  around us = Identifier (codes "module") ∷ Identifier (codes "m") ∷ Sign Open ∷ Identifier (codes "input") ∷ Identifier (codes "a") ∷ Sign Close ∷ Sign Semicolon ∷ us

  one_body : (i j : Item) (us : List Token) → body i no_token us → body j no_token us → item_tree i ≡ item_tree j
  one_body i j us a b =
      let t = one_file (around (us ++ tail)) (file_tree (small i)) (file_tree (small j)) (small i, (refl, refl, (refl, refl, item_at i us a)), refl) (small j, (refl, refl, (refl, refl, item_at j us b)), refl) in
      sym (append-nil (item_tree i)) ∙ ap (λ (m : ModuleTree). m.items) t ∙ append-nil (item_tree j)

  one_own : (i j : Item) (K J : List Token → Type 0) (ts : List Token) → own_item L i K ts → own_item L j J ts → (item_tree i ≡ item_tree j) × Both K J
  one_own i j K J ts g h =
      let p = (body_cut is_semi semi_harmless i).cut (sign Semicolon K) ts (to_body i K ts g) in
      let q = (body_cut is_semi semi_harmless j).cut (sign Semicolon J) ts (to_body j J ts h) in
      let a = stops_of K p.behind p.next in
      let b = stops_of J q.behind q.next in
      let same = split_first is_semi p.own q.own (Sign a.mark) (Sign b.mark) a.rest b.rest p.free q.free a.last b.last (ap (λ x. p.own ++ x) (sym a.is) ∙ sym p.is ∙ q.is ∙ ap (λ x. q.own ++ x) b.is) in (
        one_body i j p.own p.alone (subst (λ x. body j no_token x) (sym same.0) q.alone),
        record { rest = a.rest; one = a.next; other = subst J (sym same.2) b.next },
      )

  -- ---- placed modules

  same_placed : (p q : PlacedModule) → p.unit ≡ q.unit → p.name ≡ q.name → p.link ≡ q.link → p.links ≡ q.links → placed_tree p ≡ placed_tree q
  same_placed p q a b c d = rw (a, b, c, d) refl

  one_placed : (p q : PlacedModule) (K J : List Token → Type 0) (ts : List Token) → placed L p K ts → placed L q J ts → (placed_tree p ≡ placed_tree q) × Both K J
  one_placed p q K J ts g h =
      let k1 : ℕ → List Token → Type 0 = λ d. link L d p.link (links L d p.links (sign Close (sign Semicolon K))) in
      let j1 : ℕ → List Token → Type 0 = λ d. link L d q.link (links L d q.links (sign Close (sign Semicolon J))) in
      let a = name_same p.unit q.unit (name p.name (sign Open (inside L 0 k1))) (name q.name (sign Open (inside L 0 j1))) ts g h in
      let b = name_same p.name q.name (sign Open (inside L 0 k1)) (sign Open (inside L 0 j1)) a.1.rest a.1.one a.1.other in
      let c = sign_same Open (inside L 0 k1) (inside L 0 j1) b.1.rest b.1.one b.1.other in
      let i = inside_same 0 k1 j1 c.rest c.one c.other in
      let u = link_same i.0 p.link q.link (links L i.0 p.links (sign Close (sign Semicolon K))) (links L i.0 q.links (sign Close (sign Semicolon J))) c.rest i.1 i.2 in
      let v = links_same i.0 p.links q.links (sign Semicolon K) (sign Semicolon J) u.1.rest u.1.one u.1.other in
      let z = sign_same Semicolon K J v.1.rest v.1.one v.1.other in
      (same_placed p q a.0 b.0 u.0 v.0, z)

  last_begins : (ts : List Token) → last ts → Begins 0 ts
  unfolding kind
  last_begins ts h = keyword_begins (codes "endmodule") 0 no_token ts refl h

  one_places : (ps qs : List PlacedModule) (ts : List Token) → all_placed L ps last ts → all_placed L qs last ts → map placed_tree ps ≡ map placed_tree qs
  one_places [] [] ts g h = refl
  one_places [] (q ∷ qs) ts g h = absurd (zero_two (clash 0 2 ts (last_begins ts g) (name_begins q.unit _ ts h)))
  one_places (p ∷ ps) [] ts g h = absurd (zero_two (clash 0 2 ts (last_begins ts h) (name_begins p.unit _ ts g)))
  one_places (p ∷ ps) (q ∷ qs) ts g h =
      let a = one_placed p q (all_placed L ps last) (all_placed L qs last) ts g h in
      ap (λ (t : PlacedTree). t ∷ map placed_tree ps) a.0 ∙ ap (λ (l : List PlacedTree). placed_tree q ∷ l) (one_places ps qs a.1.rest a.1.one a.1.other)

  -- ---- items of its own, one behind another

  -- what stands behind them begins with no word of theirs
  no_own : (ps : List PlacedModule) (ts : List Token) → all_placed L ps last ts → Begins 1 ts → ⊥
  no_own [] ts h b = zero_one (clash 0 1 ts (last_begins ts h) b)
  no_own (p ∷ ps) ts h b = one_two (clash 1 2 ts b (name_begins p.unit _ ts h))

  one_owns : (is js : List Item) (ps qs : List PlacedModule) (ts : List Token) → own_items L is (all_placed L ps last) ts → own_items L js (all_placed L qs last) ts
      → (items_tree is ≡ items_tree js) × Both (all_placed L ps last) (all_placed L qs last)
  one_owns [] [] ps qs ts g h = (refl, record { rest = ts; one = g; other = h })
  one_owns [] (j ∷ js) ps qs ts g h = absurd (no_own ps ts g (own_begins j (own_items L js (all_placed L qs last)) ts h))
  one_owns (i ∷ is) [] ps qs ts g h = absurd (no_own qs ts h (own_begins i (own_items L is (all_placed L ps last)) ts g))
  one_owns (i ∷ is) (j ∷ js) ps qs ts g h =
      let a = one_own i j (own_items L is (all_placed L ps last)) (own_items L js (all_placed L qs last)) ts g h in
      let r = one_owns is js ps qs a.1.rest a.1.one a.1.other in
      (ap (λ l. l ++ items_tree is) a.0 ∙ ap (λ l. item_tree j ++ l) r.0, r.1)

  -- ---- tops

  -- what stands behind the head of a top
  abbrev behind_head : TopFile → List Token → Type 0
  behind_head f = own_items L f.items (all_placed L f.placed last)

  one_top : (f g : TopFile) (ts : List Token) → top L f ts → top L g ts → top_tree f ≡ top_tree g
  one_top f g ts a b =
      let p = (head_cut is_semi semi_harmless f).cut (sign Semicolon (behind_head f)) ts a in
      let q = (head_cut is_semi semi_harmless g).cut (sign Semicolon (behind_head g)) ts b in
      let c = stops_of (behind_head f) p.behind p.next in
      let d = stops_of (behind_head g) q.behind q.next in
      let same = split_first is_semi p.own q.own (Sign c.mark) (Sign d.mark) c.rest d.rest p.free q.free c.last d.last (ap (λ x. p.own ++ x) (sym c.is) ∙ sym p.is ∙ q.is ∙ ap (λ x. q.own ++ x) d.is) in
      let h = one_head f g p.own p.alone (subst (λ x. head g no_token x) (sym same.0) q.alone) in
      let i = one_owns f.items g.items f.placed g.placed c.rest c.next (subst (λ x. behind_head g x) (sym same.2) d.next) in
      same_top (ap (λ (m : ModuleTree). m.name) h) (ap (λ (m : ModuleTree). m.ports) h) i.0 (one_places f.placed g.placed i.1.rest i.1.one i.1.other)
    where
      same_top : f.name ≡ g.name → port_tree f.port ∷ ports_tree f.ports ≡ port_tree g.port ∷ ports_tree g.ports → items_tree f.items ≡ items_tree g.items → map placed_tree f.placed ≡ map placed_tree g.placed → top_tree f ≡ top_tree g
      same_top a b c d = rw (a, b, c, d) refl

  -- ---- modules one behind another

  -- a module's tokens end with the first last word
  record Whole (us : List Token) : Type 0 where
    pub front : List Token
    pub word : List ℕ
    pub is : us ≡ front ++ Identifier word ∷ []
    pub free : Free is_end front
    pub last : is_end (Identifier word) ≡ true

  alone_behind : (K : List Token → Type 0) (ts : List Token) (m : Ends no_token ts) → ts ≡ Identifier m.word ∷ []
  alone_behind K ts m = m.is ∙ ap (λ x. Identifier m.word ∷ x) (no_more m.rest m.next)

  module_parts : (us : List Token) (m : ModuleTree) → Derives Parenthesised L us m → Whole us
  module_parts us m d =
      let p = (fl L is_end end_harmless end_semi d.0).cut last us d.1 in
      let e = ends_of no_token p.behind p.next in
      record { front = p.own; word = e.word; is = p.is ∙ ap (λ x. p.own ++ x) (alone_behind no_token p.behind e); free = p.free; last = e.last }

  dot_safe : (m : Mark) → is_sign FullStop m ≡ true → is_end (Sign m) ≡ false
  unfolding is_end
  dot_safe m q = refl

  top_parts : (f : TopFile) (us : List Token) → top L f us → Whole us
  top_parts f us d =
      let p = (top_cut is_end end_harmless dot_safe end_semi f).cut last us d in
      let e = ends_of no_token p.behind p.next in
      record { front = p.own; word = e.word; is = p.is ∙ ap (λ x. p.own ++ x) (alone_behind no_token p.behind e); free = p.free; last = e.last }

  -- the same tokens split in the same way
  same_split : (us vs xs ys : List Token) → Whole us → Whole vs → us ++ xs ≡ vs ++ ys → (us ≡ vs) × (xs ≡ ys)
  same_split us vs xs ys m n h =
      let r = split_first is_end m.front n.front (Identifier m.word) (Identifier n.word) xs ys m.free n.free m.last n.last
      (sym (append_assoc m.front (Identifier m.word ∷ []) xs) ∙ ap (λ x. x ++ xs) (sym m.is) ∙ h ∙ ap (λ x. x ++ ys) n.is ∙ append_assoc n.front (Identifier n.word ∷ []) ys) in
      (m.is ∙ ap (λ x. x ++ Identifier m.word ∷ []) r.0 ∙ ap (λ t. n.front ++ t ∷ []) r.1 ∙ sym n.is, r.2)

  -- something stands behind a module
  some_tokens : (ms : List ModuleTree) (t : TopTree) → ChipTokens L ms t [] → ⊥
  some_tokens [] t h = h.1
  some_tokens (m ∷ ms) t h =
      let p = module_parts h.0 m h.3 in
      nothing_there p.front (Identifier p.word) h.1 (h.2 ∙ ap (λ x. x ++ h.1) p.is ∙ append_assoc p.front (Identifier p.word ∷ []) h.1)
    where
      nothing_there : (xs : List Token) (x : Token) (ys : List Token) → [] ≡ xs ++ (x ∷ ys) → ⊥
      nothing_there [] x ys q = cc
      nothing_there (z ∷ xs) x ys q = cc

  -- a top alone is no module with something behind it
  one_or_more : (f : TopFile) (ts us rest : List Token) (m : ModuleTree) (ms : List ModuleTree) (t : TopTree) → top L f ts → ts ≡ us ++ rest → Derives Parenthesised L us m → ChipTokens L ms t rest → ⊥
  one_or_more f ts us rest m ms t a q d c =
      let s = same_split ts us [] rest (top_parts f ts a) (module_parts us m d) (append-nil ts ∙ q) in
      some_tokens ms t (subst (λ x. ChipTokens L ms t x) (sym s.1) c)

  pub one_chip : (ms ns : List ModuleTree) (t u : TopTree) (ts : List Token) → ChipTokens L ms t ts → ChipTokens L ns u ts → (ms ≡ ns) × (t ≡ u)
  one_chip [] [] t u ts g h = (refl, sym g.2 ∙ one_top g.0 h.0 ts g.1 h.1 ∙ h.2)
  one_chip [] (n ∷ ns) t u ts g h = absurd (one_or_more g.0 ts h.0 h.1 n ns u g.1 h.2 h.3 h.4)
  one_chip (m ∷ ms) [] t u ts g h = absurd (one_or_more h.0 ts g.0 g.1 m ms t h.1 g.2 g.3 g.4)
  one_chip (m ∷ ms) (n ∷ ns) t u ts g h =
      let s = same_split g.0 h.0 g.1 h.1 (module_parts g.0 m g.3) (module_parts h.0 n h.3) (sym g.2 ∙ h.2) in
      let e = one_file g.0 m n g.3 (subst (λ x. Derives Parenthesised L x n) (sym s.0) h.3) in
      let r = one_chip ms ns t u g.1 g.4 (subst (λ x. ChipTokens L ns u x) (sym s.1) h.4) in
      (ap (λ x. x ∷ ms) e ∙ ap (λ l. n ∷ l) r.0, r.1)
