use Rattle.std.proofs.Common.{◌≡◌, ℕ, ◌<◌, false, get_or}
use mir.Val.{bool_byte}
use Rattle.words.proofs.answer.write_flags.Given as goal

abbrev pub invariant-loop-input : goal.invariant-loop-input
invariant-loop-input l = (k : ℕ) → k < l.input → get_or l.part k 0 ≡ bool_byte (get_or l.turned_away k false)
