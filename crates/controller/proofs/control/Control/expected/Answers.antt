use Rattle.controller.proofs.Mirror.{expected_read, none_expected}
use Rattle.controller.proofs.control.Control.expected.Goals as goal

pub returns-then-self : goal.returns-then-self
returns-then-self c = λ march d returned k stands. expected_read march d _ _ returned k c.self.view_is c.known.ensures c.if-self.true stands

pub returns-else-self : goal.returns-else-self
returns-else-self c = λ march d returned k stands. none_expected march d _ _ returned k c.self.view_is c.known.ensures c.if-self.false stands
