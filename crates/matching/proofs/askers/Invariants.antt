use Rattle.std.proofs.Common.{◌≡◌, ℕ, not, ◌&&◌, eqb, ltb, length, get_or}
use Rattle.bits.specs.Bits.{is_set}
use Rattle.matching.proofs.askers.Given as goal

-- the outputs before for which a cell waits ask
abbrev pub invariant-loop-o : goal.invariant-loop-o
invariant-loop-o l = (p : ℕ) → is_set l.asking p ≡ (ltb p (length l.yielded) && not (eqb (get_or l.waiting p 0) 0))
