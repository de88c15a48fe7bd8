use Rattle.std.proofs.Common.{ℕ, ◌/◌, ◌^◌, eqb, ap}
use Rattle.std.proofs.lemmas.Nat.{and_mask}
use Rattle.bits.specs.Bits.{is_set}
use Rattle.bits.proofs.has.Goals as goal

pub returns : goal.returns
unfolding is_set
returns c = ap (λ (z : ℕ). eqb z 1) (and_mask (c.args.x / 2 ^ c.args.k) 1)
