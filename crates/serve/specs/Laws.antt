-- What the theorem on serving says. Assumes nothing.
use Rattle.std.specs.Prelude.{◌≡◌, ℕ, List, ◌++◌}
use Rattle.switch.specs.Respond.{Status}
use Rattle.serve.specs.Served.{after, answers_to}

-- Words behind others are answered as at the status after those, and nothing else of what was before counts.
abbrev pub ServedInTurn : Type 0
ServedInTurn =
    (st : Status) (ws vs : List (List ℕ)) →
    (after st (ws ++ vs) ≡ after (after st ws) vs) × (answers_to st (ws ++ vs) ≡ answers_to st ws ++ answers_to (after st ws) vs)
