-- What each turn leaves shows a status again.
use Rattle.std.proofs.Common.{◌≡◌, ℕ, ◌<◌, ◌≤◌, Bool, true, not, ◌&&◌, List, [], ◌∷◌, length, take, Some, Ok, sym, refl, ap, ◌∙◌, subst, arith}
use Rattle.std.proofs.lemmas.Bool.{lt-ltb}
use Rattle.crossbox.specs.declared.Cell.{Cell}
use Rattle.crossbox.specs.Cells.{Arrivals}
use Rattle.crossbox.specs.Box.{Box, begin, Stable, empty, transfer, depart, room_for}
use Rattle.crossbox.specs.Box as model
use Rattle.crossbox.specs.Shape.{Rising}
use Rattle.crossbox.specs.Promise.{Fits, AllFit}
use Rattle.ideal.proofs.Loops.{flags_all}
use Rattle.words.specs.Lines.{Line, read_lines, all_fit, judge, verdict}
use Rattle.words.specs.Writing.{Draft}
use Rattle.words.proofs.Scans.{verdict_good}
use Rattle.cioq.specs.State.{Good, begun}
use Rattle.cioq.specs.State as real
use Rattle.cioq.specs.Spells.{box_of}
use Rattle.cioq.specs.Arrivals.{arrivals_of, away, lines_or, slot_lines}
use Rattle.cioq.specs.Choice.{picks, judge_choice}
use Rattle.cioq.specs.Transfers.{transfer_all}
use Rattle.cioq.specs.Departures.{depart_all}
use Rattle.cioq.proofs.Begun.{begun_good, begun_spells, begun_counts}
use Rattle.cioq.proofs.Judged.{judged-spelled}
use Rattle.cioq.proofs.Transfers.{transferred_lines}
use Rattle.switch.specs.Respond.{SlotIn, arrived, body_in, slot_of}
use Rattle.crowd.specs.declared.Due.TheVariants as due
use Rattle.crowd.specs.Crowd.{Status, due_of, turns_away}
use Rattle.crowd.specs.Crowd.Status.{Unset, SlotDue, FirstDue, SecondDue}
use Rattle.crowd.specs.State.{State, Holds, arrives, Shows, Taken}
use Rattle.crowd.proofs.Within.{run_placed, arrived_placed, departed_placed, arrive_holds, arrive-away, choice_stable, transfer_holds, depart_holds, next_rising, next-departed, next-run, shows_good}

-- what is due is what the status says
pub due_is : (s : State) (st : Status) → Shows s st → s.due ≡ due_of st
due_is s Unset h = h.1
due_is s (SlotDue n past b) h = h.1
due_is s (FirstDue n past b flags) h = h.1
due_is s (SecondDue n past b) h = h.1

-- some status is shown
abbrev pub Shown : State → Type 0
Shown s = (st : Status) × Shows s st

-- after settings a slot is due
pub begun_shows : (s : State) (n : ℕ) → Good s.real → 0 < n → n ≤ 32 → Shows (record { real = begun n s.real; due = due.Slot; away = s.away }) (SlotDue n [] empty)
unfolding AllFit
begun_shows s n g pos few = (
  record {
    good = begun_good s.real n g few;
    set = pos;
    lines = refl;
    slots = refl;
    fit = tt;
    spells = begun_spells s.real n g few (body_in []);
    counts = begun_counts s.real n g few;
  },
  refl,
  begin,
)

-- after a slot its first choice is due
pub taken_shows : (s after : State) (past : List SlotIn) (b : Box) (bytes : List ℕ) (ls : List Line) (out written : Draft) → Shows s (SlotDue s.real.lines past b) → read_lines 64 s.real.lines bytes ≡ Some ls → all_fit s.real.lines ls ≡ true → Taken ls s after out written → Shows after (FirstDue s.real.lines (slot_of ls ∷ past) (model.arrived 256 s.real.lines (arrived past) (arrivals_of ls) b) (turns_away s.real.lines b (arrivals_of ls)))
taken_shows s after past b bytes ls out written h r f d =
    let n = s.real.lines in
    let p = run_placed n past b h.2 in
    let flags : take n after.away ≡ turns_away n b (arrivals_of ls) = flags_all (λ i. not (room_for 256 n i (arrivals_of ls) b (arrivals_of ls i))) after.away n d.inputs h.0.good.few (λ i l. d.flags i (omega (arith, h.0.good.few)) ∙ (ap (λ (t : Bool). t && away ls s.real i) (lt-ltb i n l) ∙ arrive-away s.real past b h.0 p bytes ls r f i l)) in (
      subst (λ (x : real.State). Holds x n (slot_of ls ∷ past) (model.arrived 256 n (arrived past) (arrivals_of ls) b)) (sym d.box) (arrive_holds s.real past b h.0 p bytes ls r f),
      d.next,
      arrives (slot_of ls) h.2,
      flags,
    )

-- after a first choice the second is due
module _ (s : State) (past : List SlotIn) (b : Box) (flags : List Bool) (ch : Arrivals) (h : Shows s (FirstDue s.real.lines past b flags)) (fits : Fits s.real.lines ch) (ok : Ok tt ≡ judge_choice s.real.lines ch b) where
  abbrev ms : List Cell
  ms = picks s.real.lines ch b

  abbrev over : real.State
  over = transfer_all s.real.lines ch s.real

  stable : Stable b ms
  stable = choice_stable s.real past b (length (arrived past)) ch h.0 (arrived_placed s.real.lines h.2) fits ok

  pub over_holds : Holds over s.real.lines past (transfer ms b)
  over_holds = transfer_holds s.real past b (length (arrived past)) ch h.0 (arrived_placed s.real.lines h.2) fits ok

  pub over_rises : Rising (transfer ms b)
  over_rises = next_rising s.real.lines ms h.2 stable

  pub first_shows : Shows (record { real = depart_all s.real.lines over; due = due.Second; away = s.away }) (SecondDue s.real.lines past (depart (transfer ms b)))
  first_shows =
      (depart_holds over s.real.lines past (transfer ms b) over_holds over_rises, refl, next-departed s.real.lines ms h.2 stable)

-- the real box after a first choice, when its cells have departed
pub left_is : (s : State) (ch : Arrivals) (mid last : real.State) → mid ≡ transfer_all s.real.lines ch s.real → last ≡ depart_all mid.lines mid → last ≡ depart_all s.real.lines (transfer_all s.real.lines ch s.real)
left_is s ch mid last p q =
    let n : mid.lines ≡ s.real.lines = ap (λ (z : real.State). z.lines) p ∙ transferred_lines s.real.lines ch s.real in
    q ∙ (ap (λ (x : ℕ). depart_all x mid) n ∙ ap (λ (z : real.State). depart_all s.real.lines z) p)

-- after a second choice a slot is due
pub second_shows : (s : State) (past : List SlotIn) (b : Box) (ch : Arrivals) → Shows s (SecondDue s.real.lines past b) → Fits s.real.lines ch → Ok tt ≡ judge_choice s.real.lines ch b → Shows (record { real = transfer_all s.real.lines ch s.real; due = due.Slot; away = s.away }) (SlotDue s.real.lines past (transfer (picks s.real.lines ch b) b))
second_shows s past b ch h fits ok =
    let p = departed_placed s.real.lines h.2 in
    let stable = choice_stable s.real past b (length (arrived past)) ch h.0 p fits ok in
    (transfer_holds s.real past b (length (arrived past)) ch h.0 p fits ok, refl, next-run s.real.lines (picks s.real.lines ch b) h.2 stable)

-- a choice that is tested over memory is tested over the box that memory spells
pub spelled_test : (s : State) (past : List SlotIn) (b : Box) → Holds s.real s.real.lines past b → (ch : Arrivals) → judge_choice s.real.lines ch (box_of s.real.lines s.real.mem) ≡ judge_choice s.real.lines ch b
spelled_test s past b h ch = judged-spelled (body_in past) s.real.lines s.real.mem b ch h.spells

-- where a turn is due, the status says so

module _ (s : State) where
  pub slot_due : (st : Status) → Shows s st → s.due ≡ due.Slot → (past : List SlotIn) × (b : Box) × (st ≡ SlotDue s.real.lines past b)
  slot_due Unset h k = absurd (let u = sym h.1 ∙ k in let z : ◌≡◌ {A = ℕ} 0 1 = cc in omega arith)
  slot_due (SlotDue n past b) h k = (past, b, ap (λ (x : ℕ). SlotDue x past b) (sym h.0.lines))
  slot_due (FirstDue n past b flags) h k = absurd (let u = sym h.1 ∙ k in let z : ◌≡◌ {A = ℕ} 0 1 = cc in omega arith)
  slot_due (SecondDue n past b) h k = absurd (let u = sym h.1 ∙ k in let z : ◌≡◌ {A = ℕ} 0 1 = cc in omega arith)

  pub first_due : (st : Status) → Shows s st → s.due ≡ due.First → (past : List SlotIn) × (b : Box) × (flags : List Bool) × (st ≡ FirstDue s.real.lines past b flags)
  first_due Unset h k = absurd (let u = sym h.1 ∙ k in let z : ◌≡◌ {A = ℕ} 0 1 = cc in omega arith)
  first_due (SlotDue n past b) h k = absurd (let u = sym h.1 ∙ k in let z : ◌≡◌ {A = ℕ} 0 1 = cc in omega arith)
  first_due (FirstDue n past b flags) h k =
      (past, b, flags, ap (λ (x : ℕ). FirstDue x past b flags) (sym h.0.lines))
  first_due (SecondDue n past b) h k = absurd (let u = sym h.1 ∙ k in let z : ◌≡◌ {A = ℕ} 0 1 = cc in omega arith)

  pub second_due : (st : Status) → Shows s st → s.due ≡ due.Second → (past : List SlotIn) × (b : Box) × (st ≡ SecondDue s.real.lines past b)
  second_due Unset h k = absurd (let u = sym h.1 ∙ k in let z : ◌≡◌ {A = ℕ} 0 1 = cc in omega arith)
  second_due (SlotDue n past b) h k = absurd (let u = sym h.1 ∙ k in let z : ◌≡◌ {A = ℕ} 0 1 = cc in omega arith)
  second_due (FirstDue n past b flags) h k = absurd (let u = sym h.1 ∙ k in let z : ◌≡◌ {A = ℕ} 0 1 = cc in omega arith)
  second_due (SecondDue n past b) h k = (past, b, ap (λ (x : ℕ). SecondDue x past b) (sym h.0.lines))

-- so each turn, where it is due, keeps that some status is shown

module _ (s : State) (h : Shown s) where
  pub begun_keeps : (n : ℕ) → 0 < n → n ≤ 32 → Shown (record { real = begun n s.real; due = due.Slot; away = s.away })
  begun_keeps n pos few = (SlotDue n [] empty, begun_shows s n (shows_good s h.0 h.1) pos few)

  pub taken_keeps : (after : State) (late : Bool) (bytes : List ℕ) (out written : Draft) → s.due ≡ due.Slot → Ok tt ≡ verdict (judge s.real.lines 64 late bytes) → Taken (slot_lines s.real.lines bytes) s after out written → Shown after
  taken_keeps after late bytes out written k ok d =
      let w = slot_due s h.0 h.1 k in
      let n = s.real.lines in
      let ls = slot_lines n bytes in
      let a = verdict_good n 64 late bytes ok in
      let e : a.lines ≡ ls = sym (ap lines_or a.read) in (
        FirstDue n (slot_of ls ∷ w.0) (model.arrived 256 n (arrived w.0) (arrivals_of ls) w.1) (turns_away n w.1 (arrivals_of ls)),
        taken_shows s after w.0 w.1 bytes ls out written (subst (Shows s) w.2 h.1) (a.read ∙ ap (λ (x : List Line). Some x) e) (subst (λ (x : List Line). all_fit n x ≡ true) e a.fit) d,
      )

  module _ (ch : Arrivals) (fits : Fits s.real.lines ch) (ok : Ok tt ≡ judge_choice s.real.lines ch (box_of s.real.lines s.real.mem)) where
    pub first_keeps : (mid last : real.State) → s.due ≡ due.First → mid ≡ transfer_all s.real.lines ch s.real → last ≡ depart_all mid.lines mid → Shown (record { real = last; due = due.Second; away = s.away })
    first_keeps mid last k p q =
        let w = first_due s h.0 h.1 k in
        let t = subst (Shows s) w.3 h.1 in
        subst (λ (z : real.State). Shown (record { real = z; due = due.Second; away = s.away })) (sym (left_is s ch mid last p q))
        (SecondDue s.real.lines w.0 (depart (transfer (picks s.real.lines ch w.1) w.1)), first_shows s w.0 w.1 w.2 ch t fits (ok ∙ spelled_test s w.0 w.1 t.0 ch))

    pub second_keeps : s.due ≡ due.Second → Shown (record { real = transfer_all s.real.lines ch s.real; due = due.Slot; away = s.away })
    second_keeps k =
        let w = second_due s h.0 h.1 k in
        let t = subst (Shows s) w.2 h.1 in
        (SlotDue s.real.lines w.0 (transfer (picks s.real.lines ch w.1) w.1), second_shows s w.0 w.1 ch t fits (ok ∙ spelled_test s w.0 w.1 t.0 ch))
