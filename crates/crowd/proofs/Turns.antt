-- Each turn of the crowd is what `crowd_respond` says, and its answers are those of the ideal box.
use Rattle.std.proofs.Common.{◌≡◌, ℕ, ◌<◌, ◌≤◌, Bool, true, false, not, leb, List, [], ◌∷◌, ◌++◌, map, length, take, drop, None, Ok, Err, Option, Result, sym, refl, ap, ◌∙◌, subst, arith}
use Rattle.std.specs.List.{range_with_len}
use Rattle.crossbox.specs.declared.Cell.{Cell}
use Rattle.crossbox.specs.Ideal.{departure, rejected}
use Rattle.crossbox.specs.Box.{Box, Run, begin, Stable, empty, transfer, depart, room_for}
use Rattle.crossbox.specs.Box as model
use Rattle.crossbox.proofs.Runs.{same-departures, same-rejected}
use Rattle.words.specs.declared.fault.Fault.{Fault}
use Rattle.words.specs.declared.fault.Fault.TheVariants.{Malformed}
use Rattle.words.specs.declared.read.Kind.{Kind}
use Rattle.words.specs.declared.read.Kind.TheVariants as kind
use Rattle.words.specs.Kind.{kind_of}
use Rattle.words.specs.Lines.{Line, settings, judge}
use Rattle.words.specs.Writing.{Draft, appended, cleared, refusal_bytes}
use Rattle.words.specs.Answer.{Departure, flag_bytes, answer_bytes}
use Rattle.switch.proofs.Turning.{written_front}
use Rattle.words.proofs.Answered.{answer_front, answer-behind}
use Rattle.cioq.specs.State.{begun}
use Rattle.cioq.specs.Spells.{box_of}
use Rattle.cioq.specs.Arrivals.{arrivals_of, away}
use Rattle.cioq.specs.Choice.{picks, judge_choice}
use Rattle.cioq.proofs.Judged.{judged_stable}
use Rattle.switch.specs.Respond.{SlotIn, arrived, body_in, slot_of, with_body, slot_answer}
use Rattle.switch.specs.Respond as ideal
use Rattle.switch.proofs.History.{counting_alike}
use Rattle.crowd.specs.declared.Due.{Due}
use Rattle.crowd.specs.declared.Due.TheVariants as due
use Rattle.crowd.specs.declared.Turn.{Turn}
use Rattle.crowd.specs.declared.Turn.TheVariants as turn
use Rattle.crowd.specs.Crowd.{Status, Verdict, due_of, turn_of, turns_away, choice_answer, settings_verdict, slot_verdict, test_verdict, choice_verdict, by_turn, decide, outcome, crowd_respond}
use Rattle.crowd.specs.Crowd.Status.{SlotDue, FirstDue, SecondDue}
use Rattle.crowd.specs.Crowd.Verdict.{Refuse, Begin, Take, Choose}
use Rattle.crowd.specs.State.{State, Holds, Arrived, arrives, Shows, Refused, Settled, Taken, Slotted, First, Second, Tried, Chosen, chosen, departures_of}
use Rattle.crowd.specs.Promise.{Answers, TurnDone, SameAnswer, SameAsIdeal}
use Rattle.crowd.proofs.Reading.{judge_ok, lines_fit, settings_range}
use Rattle.crowd.proofs.Steps.{due_is, slot_due, first_due, second_due, begun_shows, taken_shows, over_holds, over_rises, first_shows, second_shows, spelled_test}
use Rattle.crowd.proofs.Within.{arrived_placed, depart_bytes, shows_good}

-- what has to be due for a turn
abbrev DueFor : Turn → Due → Type 0
DueFor turn.Settings d = Unit {0}
DueFor turn.Slot d = d ≡ due.Slot
DueFor turn.First d = d ≡ due.First
DueFor turn.Second d = d ≡ due.Second
DueFor turn.Refusal d = Unit {0}

due_for : (d : Due) (k : Kind) → DueFor (turn_of d k) d
due_for d kind.Settings = tt
due_for due.Unset kind.Slot = tt
due_for due.Slot kind.Slot = refl
due_for due.First kind.Slot = tt
due_for due.Second kind.Slot = tt
due_for due.Unset kind.Choice = tt
due_for due.Slot kind.Choice = tt
due_for due.First kind.Choice = refl
due_for due.Second kind.Choice = refl
due_for d kind.Unknown = tt

due_in : (d : Due) (word : List ℕ) (x : Turn) → turn_of d (kind_of word) ≡ x → DueFor x d
due_in d word x e = subst (λ (t : Turn). DueFor t d) e (due_for d (kind_of word))

-- the turn of a word whose kind is known
pub turn_of_lem : (s was : State) (k : Kind) (word : List ℕ) (x : Turn) → was ≡ s → x ≡ turn_of was.due k → k ≡ kind_of word → turn_of s.due (kind_of word) ≡ x
turn_of_lem s was k word x v e q =
    ap (λ (z : Kind). turn_of s.due z) (sym q) ∙ sym (e ∙ ap (λ (z : State). turn_of z.due k) v)

-- a status in a turn
module _ (s : State) (st : Status) (word : List ℕ) (h : Shows s st) (x : Turn) (e : turn_of s.due (kind_of word) ≡ x) where
  turn_is : turn_of (due_of st) (kind_of word) ≡ x
  turn_is = ap (λ (d : Due). turn_of d (kind_of word)) (sym (due_is s st h)) ∙ e

  pub decide_is : decide st word ≡ by_turn st x word
  decide_is = ap (λ (t : Turn). by_turn st t word) turn_is

no_refusal : (v w : Verdict) (fault : Fault) → ((f : Fault) → w ≡ Refuse f → ⊥) → v ≡ w → v ≡ Refuse fault → ⊥
no_refusal v w fault ne p q = ne fault (sym p ∙ q)

-- a turn without an answer
silent : (st next : Status) (word : List ℕ) (out written : Draft) → crowd_respond st word ≡ (next, []) → written ≡ cleared out → Answers st word out written
silent st next word out written a o =
    let z = ap (λ (d : Draft). d.len) o in
    record {
      size = z ∙ sym (ap (λ x. length x.1) a);
      bytes = ap (λ (k : ℕ). take k written.bytes) z ∙ sym (ap (λ x. x.1) a);
      rest = ap (λ (d : Draft). drop written.len d.bytes) o;
    }

module _ (s after : State) (st : Status) (word : List ℕ) (out written : Draft) (h : Shows s st) where
  pub refused_turn : (fault : Fault) → decide st word ≡ Refuse fault → Refused fault s after out written → TurnDone s after st word out written
  refused_turn fault e f =
      let a : crowd_respond st word ≡ (st, refusal_bytes fault) = ap (λ (v : Verdict). outcome st v) e in
      let size = ap (λ (d : Draft). d.len) f.told in
      let w = written_front (refusal_bytes fault) out.bytes written.bytes written.len size (ap (λ (d : Draft). d.bytes) f.told) in
      record {
        answers = record { size = size ∙ sym (ap (λ x. length x.1) a); bytes = w.0 ∙ sym (ap (λ x. x.1) a); rest = w.1 };
        goes = subst (λ (z : Status). Shows after z) (sym (ap (λ x. x.0) a)) (subst (λ (z : State). Shows z st) (sym f.same) h);
        keeps = λ _ _. f.same;
      }

  begun_turn : (n : ℕ) → decide st word ≡ Begin n → 0 < n → n ≤ 32 → after ≡ record { real = begun n s.real; due = due.Slot; away = s.away } → written ≡ cleared out → TurnDone s after st word out written
  begun_turn n e pos few f o =
      let a : crowd_respond st word ≡ (SlotDue n [] empty, []) = ap (λ (v : Verdict). outcome st v) e in
      record {
        answers = silent st (SlotDue n [] empty) word out written a o;
        goes = subst (λ (x : Status). Shows after x) (sym (ap (λ x. x.0) a)) (subst (λ (x : State). Shows x (SlotDue n [] empty)) (sym f) (begun_shows s n (shows_good s st h) pos few));
        keeps = λ fault q. absurd (no_refusal (decide st word) (Begin n) fault (λ f p. let z : ◌≡◌ {A = ℕ} 0 1 = cc in omega arith) e q);
      }

  pub settled_turn : turn_of s.due (kind_of word) ≡ turn.Settings → Settled (settings word) s after out written → TurnDone s after st word out written
  settled_turn k d = go (settings word) refl d
    where
      go : (v : Result ℕ Fault) → settings word ≡ v → Settled v s after out written → TurnDone s after st word out written
      go (Ok n) e d =
          let range = settings_range word n e in
          begun_turn n (decide_is s st word h turn.Settings k ∙ ap (λ (v : Result ℕ Fault). settings_verdict v) e) range.0 range.1 d.0 d.1
      go (Err fault) e d =
          refused_turn fault (decide_is s st word h turn.Settings k ∙ ap (λ (v : Result ℕ Fault). settings_verdict v) e) d

  pub malformed_turn : turn_of s.due (kind_of word) ≡ turn.Refusal → after ≡ s → written ≡ appended (refusal_bytes Malformed) (cleared out) → TurnDone s after st word out written
  malformed_turn k a c = refused_turn Malformed (decide_is s st word h turn.Refusal k) (record { same = a; told = c })

-- a slot, where one is due
module _ (s after : State) (past : List SlotIn) (b : Box) (word : List ℕ) (out written : Draft) (h : Shows s (SlotDue s.real.lines past b)) (k : turn_of s.due (kind_of word) ≡ turn.Slot) where
  abbrev n : ℕ
  n = s.real.lines

  slot_verdict_lem : (v : Result (List Line) Fault) → judge n 64 (leb 4294967296 s.real.slots) (drop 1 word) ≡ v → decide (SlotDue n past b) word ≡ slot_verdict v
  slot_verdict_lem v e =
      decide_is s (SlotDue n past b) word h turn.Slot k
      ∙ (ap (λ (t : ℕ). slot_verdict (judge n 64 (leb 4294967296 t) (drop 1 word))) (sym h.0.slots) ∙ ap (λ (x : Result (List Line) Fault). slot_verdict x) e)

  taken_turn : (ls : List Line) → judge n 64 (leb 4294967296 s.real.slots) (drop 1 word) ≡ Ok ls → Taken ls s after out written → TurnDone s after (SlotDue n past b) word out written
  taken_turn ls e d =
      let v = slot_verdict_lem (Ok ls) e in
      let next = FirstDue n (slot_of ls ∷ past) (model.arrived 256 n (arrived past) (arrivals_of ls) b) (turns_away n b (arrivals_of ls)) in
      let a : crowd_respond (SlotDue n past b) word ≡ (next, []) = ap (λ (x : Verdict). outcome (SlotDue n past b) x) v in
      let j = judge_ok n 64 (leb 4294967296 s.real.slots) (drop 1 word) ls e in
      record {
        answers = silent (SlotDue n past b) next word out written a d.silent;
        goes = subst (λ (x : Status). Shows after x) (sym (ap (λ x. x.0) a)) (taken_shows s after past b (drop 1 word) ls out written h j.0 j.1 d);
        keeps = λ fault q. absurd (no_refusal (decide (SlotDue n past b) word) (Take ls) fault (λ f p. let z : ◌≡◌ {A = ℕ} 0 1 = cc in omega arith) v q);
      }

  slot_turn_lem : Slotted (judge n 64 (leb 4294967296 s.real.slots) (drop 1 word)) s after out written → TurnDone s after (SlotDue n past b) word out written
  slot_turn_lem d = go (judge n 64 (leb 4294967296 s.real.slots) (drop 1 word)) refl d
    where
      go : (v : Result (List Line) Fault) → judge n 64 (leb 4294967296 s.real.slots) (drop 1 word) ≡ v → Slotted v s after out written → TurnDone s after (SlotDue n past b) word out written
      go (Err fault) e d = refused_turn s after (SlotDue n past b) word out written h fault (slot_verdict_lem (Err fault) e) d
      go (Ok ls) e d = taken_turn ls e d

-- a choice word, taken or refused
module _ (s : State) (st : Status) (past : List SlotIn) (b : Box) (word : List ℕ) (h : Holds s.real s.real.lines past b)
    (decided : decide st word ≡ choice_verdict s.real.lines b (judge s.real.lines 0 false (drop 1 word))) (done : List Line → Type 0) (refused : Fault → Type 0) (X : Type 0)
    (taken : (ls : List Line) → decide st word ≡ Choose ls → judge s.real.lines 0 false (drop 1 word) ≡ Ok ls → Ok tt ≡ judge_choice s.real.lines (arrivals_of ls) b → done ls → X)
    (left : (fault : Fault) → decide st word ≡ Refuse fault → refused fault → X) where
  abbrev lines : ℕ
  lines = s.real.lines

  tried : (ls : List Line) → judge lines 0 false (drop 1 word) ≡ Ok ls → (v : Result (Unit {0}) Fault) → judge_choice lines (arrivals_of ls) (box_of lines s.real.mem) ≡ v → Tried done refused ls v → X
  tried ls e (Ok u) t d =
      let q = sym (spelled_test s past b h (arrivals_of ls)) ∙ t in
      taken ls (decided ∙ (ap (λ (v : Result (List Line) Fault). choice_verdict lines b v) e ∙ ap (λ (v : Result (Unit {0}) Fault). test_verdict ls v) q)) e (sym q) d
  tried ls e (Err fault) t d =
      let q = sym (spelled_test s past b h (arrivals_of ls)) ∙ t in
      left fault (decided ∙ (ap (λ (v : Result (List Line) Fault). choice_verdict lines b v) e ∙ ap (λ (v : Result (Unit {0}) Fault). test_verdict ls v) q)) d

  chosen-cases : Chosen done refused s (judge lines 0 false (drop 1 word)) → X
  chosen-cases d = go (judge lines 0 false (drop 1 word)) refl d
    where
      go : (v : Result (List Line) Fault) → judge lines 0 false (drop 1 word) ≡ v → Chosen done refused s v → X
      go (Ok ls) e d = tried ls e (judge_choice lines (arrivals_of ls) (box_of lines s.real.mem)) refl d
      go (Err fault) e d = left fault (decided ∙ ap (λ (v : Result (List Line) Fault). choice_verdict lines b v) e) d

-- a first choice, where one is due
module _ (s after : State) (past : List SlotIn) (b : Box) (away : List Bool) (word : List ℕ) (out written : Draft) (h : Shows s (FirstDue s.real.lines past b away)) (k : turn_of s.due (kind_of word) ≡ turn.First) where
  abbrev m : ℕ
  m = s.real.lines

  first_taken : (ls : List Line) → decide (FirstDue m past b away) word ≡ Choose ls → judge m 0 false (drop 1 word) ≡ Ok ls → Ok tt ≡ judge_choice m (arrivals_of ls) b → First ls s after out written → TurnDone s after (FirstDue m past b away) word out written
  first_taken ls v e ok d =
      let ms = picks m (arrivals_of ls) b in
      let j = judge_ok m 0 false (drop 1 word) ls e in
      let fits = lines_fit m 0 (drop 1 word) ls j.0 j.1 in
      let over = over_holds s past b away (arrivals_of ls) h fits ok in
      let up = over_rises s past b away (arrivals_of ls) h fits ok in
      let next = SecondDue m past (depart (transfer ms b)) in
      let a : crowd_respond (FirstDue m past b away) word ≡ (next, choice_answer m past (transfer ms b) away) = ap (λ (x : Verdict). outcome (FirstDue m past b away) x) v in
      let ds = departures_of m (chosen ls s) in
      let fs = take m s.away in
      let bytes : answer_bytes ds fs ≡ choice_answer m past (transfer ms b) away = ap (λ (bs : List ℕ). 3 ∷ (bs ++ flag_bytes fs)) (depart_bytes (chosen ls s) m past (transfer ms b) over up) ∙ ap (λ (f : List Bool). answer_bytes (map (λ o. with_body past (model.departs o (transfer ms b))) (range_with_len 0 m)) f) h.3 in
      record {
        answers = record { size = d.answer.next ∙ (ap (λ (xs : List ℕ). length xs) bytes ∙ sym (ap (λ x. length x.1) a)); bytes = answer_front out.bytes written.bytes written.len ds fs d.answer ∙ (bytes ∙ sym (ap (λ x. x.1) a)); rest = answer-behind out.bytes written.bytes written.len ds fs d.answer };
        goes = subst (λ (x : Status). Shows after x) (sym (ap (λ x. x.0) a)) (subst (λ (x : State). Shows x next) (sym d.box) (first_shows s past b away (arrivals_of ls) h fits ok));
        keeps = λ fault q. absurd (no_refusal (decide (FirstDue m past b away) word) (Choose ls) fault (λ f p. let z : ◌≡◌ {A = ℕ} 0 1 = cc in omega arith) v q);
      }

  first_turn : Chosen (λ ls. First ls s after out written) (λ fault. Refused fault s after out written) s (judge m 0 false (drop 1 word)) → TurnDone s after (FirstDue m past b away) word out written
  first_turn d =
      chosen-cases s (FirstDue m past b away) past b word h.0 (decide_is s (FirstDue m past b away) word h turn.First k) (λ ls. First ls s after out written) (λ fault. Refused fault s after out written) (TurnDone s after (FirstDue m past b away) word out written) first_taken (λ fault e f. refused_turn s after (FirstDue m past b away) word out written h fault e f) d

-- a second choice, where one is due
module _ (s after : State) (past : List SlotIn) (b : Box) (word : List ℕ) (out written : Draft) (h : Shows s (SecondDue s.real.lines past b)) (k : turn_of s.due (kind_of word) ≡ turn.Second) where
  abbrev l : ℕ
  l = s.real.lines

  second_taken : (ls : List Line) → decide (SecondDue l past b) word ≡ Choose ls → judge l 0 false (drop 1 word) ≡ Ok ls → Ok tt ≡ judge_choice l (arrivals_of ls) b → Second ls s after out written → TurnDone s after (SecondDue l past b) word out written
  second_taken ls v e ok d =
      let ms = picks l (arrivals_of ls) b in
      let j = judge_ok l 0 false (drop 1 word) ls e in
      let fits = lines_fit l 0 (drop 1 word) ls j.0 j.1 in
      let next = SlotDue l past (transfer ms b) in
      let a : crowd_respond (SecondDue l past b) word ≡ (next, []) = ap (λ (x : Verdict). outcome (SecondDue l past b) x) v in
      record {
        answers = silent (SecondDue l past b) next word out written a d.silent;
        goes = subst (λ (x : Status). Shows after x) (sym (ap (λ x. x.0) a)) (subst (λ (x : State). Shows x next) (sym d.box) (second_shows s past b (arrivals_of ls) h fits ok));
        keeps = λ fault q. absurd (no_refusal (decide (SecondDue l past b) word) (Choose ls) fault (λ f p. let z : ◌≡◌ {A = ℕ} 0 1 = cc in omega arith) v q);
      }

  second_turn : Chosen (λ ls. Second ls s after out written) (λ fault. Refused fault s after out written) s (judge l 0 false (drop 1 word)) → TurnDone s after (SecondDue l past b) word out written
  second_turn d =
      chosen-cases s (SecondDue l past b) past b word h.0 (decide_is s (SecondDue l past b) word h turn.Second k) (λ ls. Second ls s after out written) (λ fault. Refused fault s after out written) (TurnDone s after (SecondDue l past b) word out written) second_taken (λ fault e f. refused_turn s after (SecondDue l past b) word out written h fault e f) d

-- for every status

module _ (s after : State) (st : Status) (word : List ℕ) (out written : Draft) (h : Shows s st) where
  pub slotted_turn : turn_of s.due (kind_of word) ≡ turn.Slot → Slotted (judge s.real.lines 64 (leb 4294967296 s.real.slots) (drop 1 word)) s after out written → TurnDone s after st word out written
  slotted_turn k d =
      let w = slot_due s st h (due_in s.due word turn.Slot k) in
      subst (λ (x : Status). TurnDone s after x word out written) (sym w.2)
      (slot_turn_lem s after w.0 w.1 word out written (subst (Shows s) w.2 h) k d)

  pub chosen-first_turn : turn_of s.due (kind_of word) ≡ turn.First → Chosen (λ ls. First ls s after out written) (λ fault. Refused fault s after out written) s (judge s.real.lines 0 false (drop 1 word)) → TurnDone s after st word out written
  chosen-first_turn k d =
      let w = first_due s st h (due_in s.due word turn.First k) in
      subst (λ (x : Status). TurnDone s after x word out written) (sym w.3)
      (first_turn s after w.0 w.1 w.2 word out written (subst (Shows s) w.3 h) k d)

  pub chosen_second_turn : turn_of s.due (kind_of word) ≡ turn.Second → Chosen (λ ls. Second ls s after out written) (λ fault. Refused fault s after out written) s (judge s.real.lines 0 false (drop 1 word)) → TurnDone s after st word out written
  chosen_second_turn k d =
      let w = second_due s st h (due_in s.due word turn.Second k) in
      subst (λ (x : Status). TurnDone s after x word out written) (sym w.2)
      (second_turn s after w.0 w.1 word out written (subst (Shows s) w.2 h) k d)

-- the promise

-- a choice that is taken was read and tested
choose_good : (n : ℕ) (b : Box) (v : Result (List Line) Fault) (ls : List Line) → choice_verdict n b v ≡ Choose ls → Ok tt ≡ judge_choice n (arrivals_of ls) b
choose_good n b (Err fault) ls e = absurd (let z : ◌≡◌ {A = ℕ} 0 1 = cc in omega arith)
choose_good n b (Ok ms) ls e = go (judge_choice n (arrivals_of ms) b) refl e
  where
    go : (v : Result (Unit {0}) Fault) → judge_choice n (arrivals_of ms) b ≡ v → test_verdict ms v ≡ Choose ls → Ok tt ≡ judge_choice n (arrivals_of ls) b
    go (Err fault) t e = absurd (let z : ◌≡◌ {A = ℕ} 0 1 = cc in omega arith)
    go (Ok u) t e =
        let same : ms ≡ ls = cc in
        sym t ∙ ap (λ (x : List Line). judge_choice n (arrivals_of x) b) same

no_settings : (v : Result ℕ Fault) (ls : List Line) → settings_verdict v ≡ Choose ls → ⊥
no_settings (Ok n) ls e = let z : ◌≡◌ {A = ℕ} 0 1 = cc in omega arith
no_settings (Err fault) ls e = let z : ◌≡◌ {A = ℕ} 0 1 = cc in omega arith

first_good : (n : ℕ) (past : List SlotIn) (b : Box) (away : List Bool) (word : List ℕ) (ls : List Line) (k : Kind) → by_turn (FirstDue n past b away) (turn_of due.First k) word ≡ Choose ls → Ok tt ≡ judge_choice n (arrivals_of ls) b
first_good n past b away word ls kind.Settings e = absurd (no_settings (settings word) ls e)
first_good n past b away word ls kind.Slot e = absurd (let z : ◌≡◌ {A = ℕ} 0 1 = cc in omega arith)
first_good n past b away word ls kind.Choice e = choose_good n b (judge n 0 false (drop 1 word)) ls e
first_good n past b away word ls kind.Unknown e = absurd (let z : ◌≡◌ {A = ℕ} 0 1 = cc in omega arith)

not-not : (x : Bool) → not (not x) ≡ x
not-not true = refl
not-not false = refl

-- what departs and what was turned away is what the ideal box says
ideal_answer : (n : ℕ) {past : List SlotIn} {b : Box} {away : List Bool} → Arrived n past b away → (before : List SlotIn) (s : SlotIn) → past ≡ s ∷ before → (ms : List Cell) → Stable b ms → choice_answer n past (transfer ms b) away ≡ slot_answer n before s
ideal_answer n (arrives {past} {b} s r) before t e ms st =
    let p : past ≡ before = cc in
    let q : s ≡ t = cc in
    (ap (λ (ds : List Departure). answer_bytes ds (turns_away n b s.arrivals)) (counting_alike (λ o. with_body (s ∷ past) (model.departs o (transfer ms (model.arrived 256 n (arrived past) s.arrivals b)))) (λ o. with_body (s ∷ past) (departure 256 n o (arrived past) s.arrivals)) n None (λ o l. ap (λ (x : Option Cell). with_body (s ∷ past) x) (same-departures 256 n (arrived past) b r s.arrivals ms st o)))
    ∙ ap (λ (fs : List Bool). answer_bytes (map (λ o. with_body (s ∷ past) (departure 256 n o (arrived past) s.arrivals)) (range_with_len 0 n)) fs) (counting_alike (λ i. not (room_for 256 n i s.arrivals b (s.arrivals i))) (λ i. rejected 256 n i (arrived past) s.arrivals) n false (λ i l. ap not (same-rejected 256 n (arrived past) b r s.arrivals i) ∙ not-not (rejected 256 n i (arrived past) s.arrivals))))
    ∙ (ap (λ (x : List SlotIn). slot_answer n x s) p ∙ ap (λ (x : SlotIn). slot_answer n before x) q)

pub same_answer : SameAnswer
same_answer c n s past b away h word ls e =
    let ok = first_good n (s ∷ past) b away word ls (kind_of word) e in
    let p = arrived_placed n h.2 in
    let stable = ((judged_stable n (arrivals_of ls) b (λ i d l. ((p.waits i d l).0, (p.waits i d l).1))).0 ok).1 in
    ap (λ (x : Verdict). (outcome (FirstDue n (s ∷ past) b away) x).1) e ∙ ideal_answer n h.2 past s refl (picks n (arrivals_of ls) b) stable

-- a turn answers a first choice as the ideal box answers its slot
pub same_turn : (s after : State) (word : List ℕ) (out written : Draft) → ((st : Status) → Shows s st → TurnDone s after st word out written) → (n : ℕ) (t : SlotIn) (past : List SlotIn) (b : Box) (away : List Bool) → Shows s (FirstDue n (t ∷ past) b away) → (ls : List Line) → decide (FirstDue n (t ∷ past) b away) word ≡ Choose ls → take written.len written.bytes ≡ slot_answer n past t
same_turn s after word out written f n t past b away h ls e =
    (f (FirstDue n (t ∷ past) b away) h).answers.bytes ∙ same_answer s n t past b away h word ls e

-- a slot that is taken is one to the ideal box too

slot_read : (v : Result (List Line) Fault) (ls : List Line) → slot_verdict v ≡ Take ls → v ≡ Ok ls
slot_read (Ok ms) ls e = let same : ms ≡ ls = cc in ap (λ (x : List Line). Ok x) same
slot_read (Err fault) ls e = absurd (let z : ◌≡◌ {A = ℕ} 0 1 = cc in omega arith)

no_settings_taken : (v : Result ℕ Fault) (ls : List Line) → settings_verdict v ≡ Take ls → ⊥
no_settings_taken (Ok n) ls e = let z : ◌≡◌ {A = ℕ} 0 1 = cc in omega arith
no_settings_taken (Err fault) ls e = let z : ◌≡◌ {A = ℕ} 0 1 = cc in omega arith

ideal_takes : (n : ℕ) (past : List SlotIn) (b : Box) (word : List ℕ) (ls : List Line) (k : Kind) → by_turn (SlotDue n past b) (turn_of due.Slot k) word ≡ Take ls → ideal.by_kind (ideal.Running n past) k word ≡ ideal.Take ls
ideal_takes n past b word ls kind.Settings e = absurd (no_settings_taken (settings word) ls e)
ideal_takes n past b word ls kind.Slot e =
    ap (λ (v : Result (List Line) Fault). ideal.slot_verdict v) (slot_read (judge n 64 (leb 4294967296 (length past)) (drop 1 word)) ls e)
ideal_takes n past b word ls kind.Choice e = absurd (let z : ◌≡◌ {A = ℕ} 0 1 = cc in omega arith)
ideal_takes n past b word ls kind.Unknown e = absurd (let z : ◌≡◌ {A = ℕ} 0 1 = cc in omega arith)

-- the answer to a first choice, of a status in a slot
choice_as_slot : (n : ℕ) (past : List SlotIn) (s : SlotIn) (b : Box) (away : List Bool) (st : Status) → st ≡ FirstDue n (s ∷ past) b away → Arrived n (s ∷ past) b away → (word : List ℕ) (ls : List Line) → decide st word ≡ Choose ls → (crowd_respond st word).1 ≡ slot_answer n past s
choice_as_slot n past s b away st q a word ls e =
    let f = subst (λ (x : Status). decide x word ≡ Choose ls) q e in
    let ok = first_good n (s ∷ past) b away word ls (kind_of word) f in
    let p = arrived_placed n a in
    let stable = ((judged_stable n (arrivals_of ls) b (λ i d l. ((p.waits i d l).0, (p.waits i d l).1))).0 ok).1 in
    ap (λ (x : Status). (crowd_respond x word).1) q ∙ (ap (λ (x : Verdict). (outcome (FirstDue n (s ∷ past) b away) x).1) f ∙ ideal_answer n a past s refl (picks n (arrivals_of ls) b) stable)

pub same_as_ideal : SameAsIdeal
same_as_ideal c n past b h slot ls e choice ms f =
    let q : (crowd_respond (SlotDue n past b) slot).0 ≡ FirstDue n (slot_of ls ∷ past) (model.arrived 256 n (arrived past) (arrivals_of ls) b) (turns_away n b (arrivals_of ls)) = ap (λ (x : Verdict). (outcome (SlotDue n past b) x).0) e in
    let i = ideal_takes n past b slot ls (kind_of slot) e in
    choice_as_slot n past (slot_of ls) (model.arrived 256 n (arrived past) (arrivals_of ls) b) (turns_away n b (arrivals_of ls)) (crowd_respond (SlotDue n past b) slot).0 q (arrives (slot_of ls) h.2) choice ms f
    ∙ sym (ap (λ (v : ideal.Verdict). (ideal.outcome (ideal.Running n past) v).1) i)
