-- Inner. The text of the memory of a number.
use Rattle.std.specs.Prelude.{ℕ, ◌+◌, ◌++◌, List, codes, decimal}

abbrev pub head : List ℕ
head = codes "memory 1\nname made\nwords "

abbrev pub tail : List ℕ
tail = codes "\nbits 64\nbackgrounds 0000000000000000 aaaaaaaaaaaaaaaa cccccccccccccccc f0f0f0f0f0f0f0f0 ff00ff00ff00ff00 ffff0000ffff0000 ffffffff00000000\n"

abbrev pub written : ℕ → List ℕ
written number = head ++ (decimal (number + 2) ++ tail)
