-- What proofs of tables by computing are written with.
use Rattle.crossbox.specs.Cells.{earlier, same, is_in, without, ahead, earliest}
use Rattle.crossbox.specs.Ideal.{admitted, queue}
use Rattle.crossbox.specs.Box.{put_at, slip, slip_all, for_output, held_for, taken_for, without_all, shares_none}
use Rattle.crossbox.specs.Matching.{content, unrefused, next_ask, after_asks, count, count_pairs, chosen}
use Rattle.words.specs.Lines.{read_entry, read_lines, all_fit}
use Rattle.words.specs.Answer.{leaving_all, flag_bytes}
use Rattle.switch.specs.Respond.{body_in}
use Rattle.cases.specs.Manner.{after}
use Rattle.cases.specs.Misses.{with_one, enlarged}

infixr 20 ◌▸◌
-- a proof for the first row, and proofs for the others
abbrev pub ◌▸◌ : {A B : Type 0} → A → B → A × B
x ▸ y = (x, y)

-- whoever unfolds this unfolds all that boxes, answers and variants compute by
unfoldable pub computing : Unit {0}
unfolding earlier same is_in without ahead earliest admitted queue put_at slip slip_all for_output held_for taken_for without_all shares_none content unrefused next_ask after_asks count count_pairs chosen read_entry read_lines all_fit leaving_all flag_bytes body_in after with_one enlarged
computing = tt
