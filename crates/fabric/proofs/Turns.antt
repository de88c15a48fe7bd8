-- Each turn of the real box is what `respond` says of the ideal box.
use Rattle.std.proofs.Common.{◌≡◌, ℕ, ◌<◌, ◌≤◌, Bool, false, cond, List, [], Ok, Err, Option, Result, sym, refl, ap, ◌∙◌, subst}
use Rattle.crossbox.specs.Promise.{AllFit}
use Rattle.buffer.specs.Lent.{lent_to}
use Rattle.words.specs.declared.fault.Fault.{Fault}
use Rattle.words.specs.declared.fault.Fault.TheVariants.{NoSuchOutput}
use Rattle.words.specs.Lines.{Line, judge, judged, verdict}
use Rattle.words.proofs.Scans.{verdict_good}
use Rattle.words.specs.Writing.{Draft}
use Rattle.cioq.specs.State.{State, Good, begun}
use Rattle.cioq.specs.Arrivals.{slot_lines, lines_or}
use Rattle.cioq.proofs.Begun.{begun_good, begun_spells, begun_counts}
use Rattle.cioq.proofs.Stays.{settings_stay}
use Rattle.switch.specs.Respond.{Status, SlotIn, body_in}
use Rattle.switch.specs.Respond.Status.{Unset, Running}
use Rattle.switch.specs.Taking.{Begins, Serves}
use Rattle.fabric.specs.Real.{box_after, Runs, Shows}

pub shows_good : (s : State) (st : Status) → Shows s st → Good s
shows_good s Unset h = h.0
shows_good s (Running n past) h = h.good

begun_runs : (s : State) (n : ℕ) → Good s → 0 < n → n ≤ 32 → Runs (begun n s) n []
unfolding box_after AllFit
begun_runs s n g pos few =
    record {
      good = begun_good s n g few;
      set = pos;
      lines = refl;
      slots = refl;
      fit = tt;
      spells = begun_spells s n g few (body_in []);
      counts = begun_counts s n g few;
    }

-- a box that begins anew
pub begins : (s : State) (n : ℕ) → Good s → 0 < n → n ≤ 32 → Begins (Shows (begun n s)) 16448 n (lent_to s.mem) (lent_to (begun n s).mem)
begins s n g pos few = record { shown = begun_runs s n g pos few; left = (settings_stay s n g few).left; cells = refl }

-- the lines that are read are the ones that were judged good
pub judged_lines : (n : ℕ) (bytes : List ℕ) (ls : List Line) → judge n 64 false bytes ≡ Ok ls → slot_lines n bytes ≡ ls
judged_lines n bytes ls e =
    let a = verdict_good n 64 false bytes (sym (ap (λ (x : Result (List Line) Fault). verdict x) e)) in
    let same : ◌≡◌ {A = Result (List Line) Fault} (Ok a.lines) (Ok ls) = sym (ap (λ (o : Option (List Line)). judged n false o) a.read ∙ ap (λ (w : Bool). cond w (Ok a.lines) (Err NoSuchOutput)) a.fit) ∙ e in
    let lines_are : a.lines ≡ ls = cc in
    ap (λ (o : Option (List Line)). lines_or o) a.read ∙ lines_are

-- a slot whose lines were judged good is served
pub serves : (s after : State) (n : ℕ) (past : List SlotIn) (ls : List Line) (bytes : List ℕ) (out written : Draft) → Runs s n past → judge n 64 false bytes ≡ Ok ls → ((past : List SlotIn) → Runs s s.lines past → Serves (Shows after) 16448 s.lines past (slot_lines s.lines bytes) (lent_to s.mem) (lent_to after.mem) out written) → Serves (Shows after) 16448 n past ls (lent_to s.mem) (lent_to after.mem) out written
serves s after n past ls bytes out written h e f =
    subst (λ (m : ℕ). judge m 64 false bytes ≡ Ok ls → Serves (Shows after) 16448 m past ls (lent_to s.mem) (lent_to after.mem) out written) h.lines
    (λ e'. subst (λ (x : List Line). Serves (Shows after) 16448 s.lines past x (lent_to s.mem) (lent_to after.mem) out written) (judged_lines s.lines bytes ls e')
    (f past (subst (λ (m : ℕ). Runs s m past) (sym h.lines) h))) e
