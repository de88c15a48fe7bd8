-- Each turn of the ideal box over lent memory is what `respond` says.
use Rattle.std.proofs.Common.{◌≡◌, ℕ, ◌+◌, ◌*◌, ◌<◌, ◌≤◌, Bool, true, false, cond, ◌&&◌, leb, List, [], ◌∷◌, map, length, get_or, Some, None, Ok, Err, Option, Result, unwrap_or, sym, refl, ap, ◌∙◌, subst, inl, inr, ⊎_elim, arith}
use Rattle.std.specs.List.{range_with_len}
use Rattle.std.proofs.lemmas.List.{length-map}
use Rattle.std.proofs.lemmas.Bool.{and_parts, leb-true}
use Rattle.crossbox.specs.declared.Arrival.{Arrival}
use Rattle.crossbox.specs.declared.Arrival.TheVariants.{Nothing, For}
use Rattle.crossbox.specs.declared.Cell.{Cell}
use Rattle.crossbox.specs.Cells.{Arrivals}
use Rattle.crossbox.specs.Ideal.{admitted, first, queue, departure, full, rejected}
use Rattle.buffer.specs.Memory.{Lent, Mem, held_at, enough, fresh}
use Rattle.buffer.specs.Lent.{lent_to, beyond}
use Rattle.buffer.proofs.Reset.{reset-row}
use Rattle.words.specs.declared.fault.Fault.{Fault}
use Rattle.words.specs.declared.fault.Fault.TheVariants.{LineCount, NoSuchOutput}
use Rattle.words.specs.Lines.{Line, no_line, all_fit, settings, judge, judged, verdict}
use Rattle.words.specs.Writing.{Draft}
use Rattle.words.specs.Answer.{Departure, Written}
use Rattle.words.proofs.Scans.{verdict_good}
use Rattle.ideal.specs.State.{State, Good, begun, unset}
use Rattle.ideal.specs.Steps.{Reads, admit_all, away, depart_all, departures, served, leavers, rejects}
use Rattle.ideal.specs.Steps as steps
use Rattle.ideal.proofs.Good.{with, reads_bring, admit_all_good, depart_all_good, begun_good, unset_good}
use Rattle.ideal.proofs.Spelled.{Spells, Dresses, full_for, admit_all-spelled, away_all_spelled, departures-spelled, left-spelled}
use Rattle.ideal.proofs.Kept.{slot_stays, settings_stay, places_kept}
use Rattle.switch.specs.Respond.{Status, SlotIn, arrived, slot_of, with_body}
use Rattle.switch.specs.Respond.Status.{Unset, Running}
use Rattle.switch.specs.Best.{dressed, Runs, Shows}
use Rattle.switch.specs.Taking.{Begins, Serves}
use Rattle.switch.proofs.History.{counting_alike, body_new, dressed_on, queue-none, queue-more, shown_is}

pub shows_good : (s : State) (st : Status) → Shows s st → Good s
shows_good s Unset h = h.0
shows_good s (Running n past) h = h.good

-- a box that begins anew
pub begins : (s : State) (n : ℕ) → Good s → 0 < n → n ≤ 32 → Begins (Shows (begun n s)) 256 n (lent_to s.mem) (lent_to (begun n s).mem)
begins s n g pos few = record { shown = begun_runs; left = (settings_stay s n g few).0; cells = refl }
  where
    begun_runs : Runs (begun n s) n []
    begun_runs =
        record {
          good = begun_good s n g few;
          set = pos;
          lines = refl;
          slots = refl;
          queues = λ o i. ap (λ (ps : List ℕ). map (held_at (begun n s).mem) ps) (reset-row s.mem (257 * n) g.sound (omega arith) (omega (arith, g.heads_lent)) (omega (arith, g.cells_lent)) (omega (arith, g.spare_lent)) o (omega (arith, g.queues))) ∙ ap (λ (cs : List Cell). map (dressed []) cs) (sym (queue-none n o));
        }

-- goodness does not depend on the number of slots
any_slots : (s : State) (m : Mem) (k : ℕ) → Good (with s m) → Good (record { mem = m; lines = s.lines; slots = k })
any_slots s m k g =
    record {
      sound = g.sound;
      rooms = g.rooms;
      queues = g.queues;
      places = g.places;
      few = g.few;
      idle = g.idle;
      heads_lent = g.heads_lent;
      cells_lent = g.cells_lent;
      spare_lent = g.spare_lent;
    }

full_is : (n i : ℕ) (ps : List Arrivals) (a : Arrivals) (x : Arrival) → full_for (λ o. admitted 256 i (length ps) o a (queue 256 n o ps)) x ≡ full 256 n i ps a x
full_is n i ps a Nothing = refl
full_is n i ps a (For o) = refl

-- a slot of a running box
module _ (s : State) (past : List SlotIn) (bytes : List ℕ) (h : Runs s s.lines past) (read : Reads s.lines bytes) where
  new : List SlotIn
  new = slot_of (steps.lines_of s.lines bytes) ∷ past

  ideal_queue : ℕ → List Cell
  ideal_queue o = queue 256 s.lines o (arrived past)

  time : s.slots ≡ length (arrived past)
  time = h.slots ∙ sym (length-map past (λ z. z.arrivals))

  spelled : Spells (dressed new) s ideal_queue
  unfolding new ideal_queue
  spelled o i = h.queues o i ∙ dressed_on s.lines o (slot_of (steps.lines_of s.lines bytes)) past

  dresses : (i : ℕ) → i < s.lines → Dresses (dressed new) s.slots i (get_or (steps.lines_of s.lines bytes) i no_line).arrival (get_or (steps.lines_of s.lines bytes) i no_line).body
  unfolding new
  dresses i l o e =
      ap (λ (b : List ℕ). record { cell = record { slot = s.slots; input = i; output = o }; body = b }) (body_new (slot_of (steps.lines_of s.lines bytes)) past (record { slot = s.slots; input = i; output = o }) h.slots)

  arrivals_good : Good (with s (admit_all s.slots (steps.lines_of s.lines bytes) s.lines s.mem))
  arrivals_good = admit_all_good s s.slots (steps.lines_of s.lines bytes) s.lines h.good (reads_bring s.lines bytes read) (omega arith)

  -- the queues when all that arrives has arrived
  grown : ℕ → List Cell
  grown o = admitted 256 s.lines (length (arrived past)) o (slot_of (steps.lines_of s.lines bytes)).arrivals (queue 256 s.lines o (arrived past))

  grown-spelled : Spells (dressed new) (with s (admit_all s.slots (steps.lines_of s.lines bytes) s.lines s.mem)) grown
  unfolding grown ideal_queue
  grown-spelled o i =
      admit_all-spelled (dressed new) s h.good s.slots (steps.lines_of s.lines bytes) (reads_bring s.lines bytes read) dresses ideal_queue spelled s.lines (omega arith) o i
      ∙ ap (λ (t : ℕ). map (dressed new) (admitted 256 s.lines t o (slot_of (steps.lines_of s.lines bytes)).arrivals (queue 256 s.lines o (arrived past)))) time

  pub leavers_are : leavers (steps.lines_of s.lines bytes) s ≡ map (λ o. with_body (slot_of (steps.lines_of s.lines bytes) ∷ past) (departure 256 s.lines o (arrived past) (slot_of (steps.lines_of s.lines bytes)).arrivals)) (range_with_len 0 s.lines)
  unfolding grown new
  leavers_are =
      departures-spelled (dressed new) (with s (admit_all s.slots (steps.lines_of s.lines bytes) s.lines s.mem)) arrivals_good grown grown-spelled s.lines (omega arith)
      ∙ counting_alike _ _ s.lines None (λ o i. shown_is (slot_of (steps.lines_of s.lines bytes) ∷ past) (first (grown o)))

  pub away_is : (i : ℕ) → i < s.lines → away s.slots (steps.lines_of s.lines bytes) s.mem i ≡ rejected 256 s.lines i (arrived past) (slot_of (steps.lines_of s.lines bytes)).arrivals
  unfolding ideal_queue
  away_is i l =
      away_all_spelled (dressed new) s h.good s.slots (steps.lines_of s.lines bytes) (reads_bring s.lines bytes read) dresses ideal_queue spelled i l
      ∙ (ap (λ (t : ℕ). full_for (λ o. admitted 256 i t o (slot_of (steps.lines_of s.lines bytes)).arrivals (queue 256 s.lines o (arrived past))) (get_or (steps.lines_of s.lines bytes) i no_line).arrival) time
      ∙ full_is s.lines i (arrived past) (slot_of (steps.lines_of s.lines bytes)).arrivals (get_or (steps.lines_of s.lines bytes) i no_line).arrival)

  pub rejects_are : rejects (steps.lines_of s.lines bytes) s ≡ map (λ i. rejected 256 s.lines i (arrived past) (slot_of (steps.lines_of s.lines bytes)).arrivals) (range_with_len 0 s.lines)
  rejects_are = counting_alike _ _ s.lines false away_is

  pub served_runs : Runs (served (steps.lines_of s.lines bytes) s) s.lines (slot_of (steps.lines_of s.lines bytes) ∷ past)
  unfolding grown new
  served_runs =
      record {
        good = any_slots s (depart_all s.lines (admit_all s.slots (steps.lines_of s.lines bytes) s.lines s.mem)) (s.slots + 1) (depart_all_good (with s (admit_all s.slots (steps.lines_of s.lines bytes) s.lines s.mem)) s.lines arrivals_good (omega arith));
        set = h.set;
        lines = refl;
        slots = omega (arith, h.slots);
        queues = λ o i. left-spelled (dressed new) (with s (admit_all s.slots (steps.lines_of s.lines bytes) s.lines s.mem)) arrivals_good grown grown-spelled o i ∙ ap (λ (cs : List Cell). map (dressed (slot_of (steps.lines_of s.lines bytes) ∷ past)) cs) (sym (queue-more s.lines o (slot_of (steps.lines_of s.lines bytes)).arrivals (arrived past)));
      }

-- a slot is served
served_on : (s after : State) (past : List SlotIn) (bytes : List ℕ) (out written : Draft) → Runs s s.lines past → Reads s.lines bytes → after ≡ served (steps.lines_of s.lines bytes) s → Written out.bytes written.bytes written.len (leavers (steps.lines_of s.lines bytes) s) (rejects (steps.lines_of s.lines bytes) s) → Serves (Shows after) 256 s.lines past (steps.lines_of s.lines bytes) (lent_to s.mem) (lent_to after.mem) out written
served_on s after past bytes out written h read f w =
    let ls = steps.lines_of s.lines bytes in
    let m = ap (λ (z : State). lent_to z.mem) f in
    record {
      shown = subst (λ (z : State). Runs z s.lines (slot_of ls ∷ past)) (sym f) (served_runs s past bytes h read);
      answer = subst (λ (ds : List Departure). Written out.bytes written.bytes written.len ds (map (λ i. rejected 256 s.lines i (arrived past) (slot_of ls).arrivals) (range_with_len 0 s.lines))) (leavers_are s past bytes h read)
          (subst (λ (fs : List Bool). Written out.bytes written.bytes written.len (leavers ls s) fs) (rejects_are s past bytes h read) w);
      left = ap (λ (l : Lent). beyond (257 * s.lines) (256 * s.lines) l) m ∙ (slot_stays s bytes h.good read).0;
      places = λ p. ⊎_elim
          (λ q. inl (ap (λ (l : Lent). get_or l.cells p []) m ∙ q))
          (λ q. inr (record { input = q.input; output = q.output; there = q.there; arrives = q.arrives; taken = sym (away_is s past bytes h read q.input q.there) ∙ q.taken; free = q.free; bytes = ap (λ (l : Lent). get_or l.cells p []) m ∙ q.bytes }))
          (places_kept s bytes h.good read p);
    }

-- the lines that are read are the ones that were judged good
judged_read : (n : ℕ) (bytes : List ℕ) (ls : List Line) → judge n 64 false bytes ≡ Ok ls → Reads n bytes × (steps.lines_of n bytes ≡ ls)
judged_read n bytes ls e =
    let a = verdict_good n 64 false bytes (sym (ap (λ (x : Result (List Line) Fault). verdict x) e)) in
    let same : ◌≡◌ {A = Result (List Line) Fault} (Ok a.lines) (Ok ls) = sym (ap (λ (o : Option (List Line)). judged n false o) a.read ∙ ap (λ (w : Bool). cond w (Ok a.lines) (Err NoSuchOutput)) a.fit) ∙ e in
    let lines_are : a.lines ≡ ls = cc in
    let of-bytes : steps.lines_of n bytes ≡ ls = ap (λ (o : Option (List Line)). unwrap_or o []) a.read ∙ lines_are in (
      (a.read ∙ ap (λ (x : List Line). Some x) (lines_are ∙ sym of-bytes), ap (λ (x : List Line). all_fit n x) (of-bytes ∙ sym lines_are) ∙ a.fit),
      of-bytes,
    )

pub reads_judged : (n : ℕ) (bytes : List ℕ) (ls : List Line) → judge n 64 false bytes ≡ Ok ls → Reads n bytes
reads_judged n bytes ls e = (judged_read n bytes ls e).0

-- a slot whose lines were judged good is served
pub serves : (s after : State) (n : ℕ) (past : List SlotIn) (ls : List Line) (bytes : List ℕ) (out written : Draft) → Runs s n past → judge n 64 false bytes ≡ Ok ls → after ≡ served (steps.lines_of s.lines bytes) s → Written out.bytes written.bytes written.len (leavers (steps.lines_of s.lines bytes) s) (rejects (steps.lines_of s.lines bytes) s) → Serves (Shows after) 256 n past ls (lent_to s.mem) (lent_to after.mem) out written
serves s after n past ls bytes out written h e f w =
    subst (λ (m : ℕ). judge m 64 false bytes ≡ Ok ls → Serves (Shows after) 256 m past ls (lent_to s.mem) (lent_to after.mem) out written) h.lines
    (λ e'. let j = judged_read s.lines bytes ls e' in
    subst (λ (x : List Line). Serves (Shows after) 256 s.lines past x (lent_to s.mem) (lent_to after.mem) out written) j.1
    (served_on s after past bytes out written (subst (λ (m : ℕ). Runs s m past) (sym h.lines) h) j.0 f w)) e

-- the number of lines that settings give
pub settings_range : (word : List ℕ) (n : ℕ) → settings word ≡ Ok n → (0 < n) × (n ≤ 32)
settings_range [] n e = absurd (let z : ◌≡◌ {A = ℕ} 0 1 = cc in omega arith)
settings_range (k ∷ []) n e = absurd (let z : ◌≡◌ {A = ℕ} 0 1 = cc in omega arith)
settings_range (k ∷ (m ∷ [])) n e = in_range (leb 1 m && leb m 32) refl e
  where
    in_range : (t : Bool) → (leb 1 m && leb m 32) ≡ t → ◌≡◌ {A = Result ℕ Fault} (cond t (Ok m) (Err LineCount)) (Ok n) → (0 < n) × (n ≤ 32)
    in_range true p q =
        let same : m ≡ n = cc in
        let parts = and_parts (leb 1 m) (leb m 32) p in
        (omega (arith, leb-true 1 m parts.0), omega (arith, leb-true m 32 parts.1))
    in_range false p q = absurd (let z : ◌≡◌ {A = ℕ} 0 1 = cc in omega arith)
settings_range (k ∷ (m ∷ (b ∷ bytes))) n e = absurd (let z : ◌≡◌ {A = ℕ} 0 1 = cc in omega arith)

-- a box that was made is not set
pub made_unset : (l : Lent) (s : State) → enough 32 256 l ≡ true → s ≡ unset (fresh 32 256 l) → Shows s Unset
made_unset l s e q =
    subst (λ (z : State). Shows z Unset) (sym q) (unset_good l e, refl)
