-- `message::Text::byte_at` meets its contract: each return cites its law of specs/Text.antt.
use Rattle.message.specs.Text.{at_name, at_space, at-digit, at_colon, at_second, at_rest}
use Rattle.message.proofs.Text.byte_at.Goals as goal

pub returns-then-k-self : goal.returns-then-k-self
returns-then-k-self c = at_name c.if-k-self.true

pub returns-then-a-eq0 : goal.returns-then-a-eq0
returns-then-a-eq0 c = at_space c.if-k-self.false c.if-a-eq0.true

pub returns-then-b-self : goal.returns-then-b-self
returns-then-b-self c = at-digit c.if-k-self.false c.if-a-eq0.false c.if-b-self.true

pub returns-then-e-eq0 : goal.returns-then-e-eq0
returns-then-e-eq0 c = at_colon c.if-k-self.false c.if-a-eq0.false c.if-b-self.false c.if-e-eq0.true

pub returns-then-e-eq1 : goal.returns-then-e-eq1
returns-then-e-eq1 c = at_second c.if-k-self.false c.if-a-eq0.false c.if-b-self.false c.if-e-eq1.true

pub returns : goal.returns
returns c =
    rw c.copied.ensures
    (at_rest _ _ _ _ c.if-k-self.false c.if-a-eq0.false c.if-b-self.false c.if-e-eq0.false c.if-e-eq1.false c.get.result c.get.ensures.lookup)
