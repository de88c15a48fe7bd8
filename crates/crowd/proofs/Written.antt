-- The answer to a first choice, as it is written.
use Rattle.std.proofs.Common.{◌≡◌, ℕ, List, [], ◌∷◌, take, ap, ◌∙◌, subst}
use Rattle.crossbox.specs.Cells.{Arrivals}
use Rattle.words.specs.Lines.{Line}
use Rattle.words.specs.Numbers.{answer_kind}
use Rattle.words.specs.Writing.{Draft, appended, cleared}
use Rattle.words.specs.Answer.{Written, leaving_all, flag_bytes}
use Rattle.words.proofs.Answered.{answer_written}
use Rattle.cioq.specs.State as real
use Rattle.cioq.specs.Arrivals.{arrivals_of}
use Rattle.cioq.specs.Transfers.{transfer_all}
use Rattle.cioq.specs.Departures.{depart_all, departing_bytes}
use Rattle.cioq.proofs.Transfers.{transferred_lines}
use Rattle.crowd.specs.declared.Due.TheVariants as due
use Rattle.crowd.specs.State.{State, First, chosen, departures_of}
use Rattle.crowd.proofs.Bodies.{departing_all}
use Rattle.crowd.proofs.Steps.{left_is}

-- a first choice has been taken
pub first_taken : (s : State) (mid last : real.State) (ls : List Line) (ch : Arrivals) (k : ℕ) (start begun left told : Draft) → ch ≡ arrivals_of ls → mid ≡ transfer_all s.real.lines ch s.real → last ≡ depart_all mid.lines mid → k ≡ s.real.lines → begun ≡ appended (answer_kind ∷ []) (cleared start) → left ≡ appended (departing_bytes mid.lines mid) begun → told ≡ appended (flag_bytes (take k s.away)) left → First ls s (record { real = last; due = due.Second; away = s.away }) start told
first_taken s mid last ls ch k start begun left told e p q j b f w =
    let m : mid ≡ chosen ls s = p ∙ ap (λ (a : Arrivals). transfer_all s.real.lines a s.real) e in
    let n : mid.lines ≡ s.real.lines = ap (λ (z : real.State). z.lines) p ∙ transferred_lines s.real.lines ch s.real in
    let written = answer_written told start (departures_of mid.lines mid) (take k s.away)
    (w ∙ ap (λ (d : Draft). appended (flag_bytes (take k s.away)) d)
    (f ∙ ap (λ (bs : List ℕ). appended bs begun) (departing_all mid.lines mid) ∙ ap (λ (d : Draft). appended (leaving_all (departures_of mid.lines mid)) d) b)) in
    record {
      box = ap (λ (z : real.State). record { real = z; due = due.Second; away = s.away }) (left_is s (arrivals_of ls) mid last m q);
      answer = subst (λ (x : ℕ). Written start.bytes told.bytes told.len (departures_of s.real.lines (chosen ls s)) (take x s.away)) j (subst (λ (z : real.State). Written start.bytes told.bytes told.len (departures_of s.real.lines z) (take k s.away)) m (subst (λ (x : ℕ). Written start.bytes told.bytes told.len (departures_of x mid) (take k s.away)) n written));
    }
