use Rattle.std.proofs.Common.{Some, None, Option, MatchOption, ap}
use Rattle.ideal.specs.State.{State}
use Rattle.switch.proofs.Turns.{made_unset}
use Rattle.switch.proofs.best.best_box.Goals as goal

-- what is there has more
with_more : {X : Type 0} (P : Type 0) (Q R : X → Type 0) (r : Option X) → ((x : X) → Q x → R x) → MatchOption r P Q → MatchOption r P R
with_more P Q R None f h = h
with_more P Q R (Some x) f h = f x h

pub returns : goal.returns
returns c = with_more _ _ _ c.new.result (λ b h. (h.0, made_unset _ b h.0 h.1, ap (λ (z : State). z.mem) h.1)) c.new.ensures
