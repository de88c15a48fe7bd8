use Rattle.std.proofs.Common.{◌≡◌, ℕ, ◌<◌, false, List, Ok, Err, Option, Result, IfSome, sym, subst}
use Rattle.std.specs.Result.{result_ok}
use Rattle.crossbox.specs.declared.Arrival.{Arrival}
use Rattle.words.specs.declared.fault.Fault.{Fault}
use Rattle.words.specs.Lines.{Line, judge}
use Rattle.cioq.specs.Arrivals.{arrivals_of}
use Rattle.cioq.specs.Choice.{choice_of, judge_choice}
use Rattle.crowd.specs.Crowd.{Status, lines_of, box_in}
use Rattle.crowd.specs.State.{State, Shows, Choosing}
use Rattle.crowd.proofs.Shown.{shown_choice}
use Rattle.crowd.proofs.Crowd.choice_of.Goals as goal

-- a choice, if there is one, is what the bytes say, and is taken
abbrev Chosen : State → List ℕ → Option (List Arrival) → Type 0
Chosen s bytes o =
    IfSome o (λ choice. (st : Status) → Shows s st → (ls : List Line) × (judge (lines_of st) 0 false bytes ≡ Ok ls) × (Ok tt ≡ judge_choice (lines_of st) (arrivals_of ls) (box_in st)) × (choice_of choice ≡ arrivals_of ls))

chosen : (s : State) (bytes : List ℕ) (r : Result (List Arrival) Fault) → 0 < s.real.lines → Choosing s bytes r → Chosen s bytes (result_ok r)
chosen s bytes (Ok choice) set h = shown_choice s bytes choice set h
chosen s bytes (Err fault) set h = tt

pub returns : goal.returns
returns c =
    subst (λ (o : Option (List Arrival)). Chosen c.args.self.now c.args.lines.now o) (sym c.ok.ensures.value)
    (chosen c.args.self.now c.args.lines.now c.choose.result c.requires c.choose.ensures)
