-- The steps of a slot of the real box, one after the other, each from what the step before it left.
use Rattle.std.proofs.Common.{◌≡◌, ℕ, zero, suc, true, List, ◌++◌, map, get_or, Some, None, Option, sym, refl, ap, ◌∙◌, subst, add-one, arith}
use Rattle.std.specs.List.{range_with_len}
use Rattle.std.proofs.lemmas.List.FromFn.{map-range_with_len_more}
use Rattle.crossbox.specs.declared.Arrival.{Arrival}
use Rattle.crossbox.specs.declared.Cell.{Cell}
use Rattle.crossbox.specs.Box.{Box, depart, departs}
use Rattle.crossbox.specs.Promise.{Fits}
use Rattle.crossbox.specs.Shape.{InOrder}
use Rattle.crossbox.proofs.Shape.{Placed, Directed}
use Rattle.words.specs.Lines.{Line, no_line}
use Rattle.words.specs.Answer.{Departure, leaving, leaving_all}
use Rattle.words.proofs.Answered.{leaving_push}
use Rattle.matching.specs.declared.Found.{Found}
use Rattle.matching.specs.Table.{Finds}
use Rattle.cioq.specs.State.{State, Good, Aimed, Counted}
use Rattle.cioq.specs.Spells.{Spells, Counts, box_of}
use Rattle.cioq.specs.Arrivals.{arrivals_of, Brings}
use Rattle.cioq.specs.Departures.{depart_all, departing_bytes, departed_bytes, dressed}
use Rattle.cioq.specs.Choice.{choice_of, all_wait}
use Rattle.cioq.specs.Transfers.{transfer_all}
use Rattle.cioq.proofs.Arrivals.{AllBring}
use Rattle.cioq.proofs.Departures.{departed-lines, departed-slots, departed_good}
use Rattle.cioq.proofs.Departed.{spelled_counted, departed_spells, departed_bytes_lem, departed_counts}
use Rattle.cioq.proofs.Transfers.{transferred_lines, transferred_slots}
use Rattle.switch.specs.Respond.{SlotIn, body_in, with_body}
use Rattle.fabric.specs.Real.{gone, Tied}
use Rattle.fabric.proofs.Choice.{tied, aimed, fits, waits, chosen_good, chosen_spells, chosen_counts}

-- a box in memory at a step of a slot, against the model's
pub record Stage (B : Cell → List ℕ) (n t slots : ℕ) (s : State) (b : Box) : Type 0 where
  pub good : Good s
  pub lines : s.lines ≡ n
  pub slots_had : s.slots ≡ slots
  pub spells : Spells B n s.mem b
  pub counts : Counts n s.counts b
  pub placed : Placed n t b
  pub directed : Directed n b
  pub order : InOrder b

-- what a stage gives for the box's own number of lines
module _ (B : Cell → List ℕ) (n t k : ℕ) (s : State) (b : Box) (g : Stage B n t k s b) where
  own_spells : Spells B s.lines s.mem b
  own_spells = subst (λ (z : ℕ). Spells B z s.mem b) (sym g.lines) g.spells

  own_counts : Counts s.lines s.counts b
  own_counts = subst (λ (z : ℕ). Counts z s.counts b) (sym g.lines) g.counts

  own_placed : Placed s.lines t b
  own_placed = subst (λ (z : ℕ). Placed z t b) (sym g.lines) g.placed

  own_directed : Directed s.lines b
  own_directed = subst (λ (z : ℕ). Directed z b) (sym g.lines) g.directed

  pub stage_tied : Tied s b
  stage_tied = tied B s b t g.good own_spells own_placed own_directed g.order

  pub stage_aimed : Aimed s
  stage_aimed = aimed B s b t g.good own_spells own_placed own_directed g.order

  pub stage_counted : Counted s
  stage_counted = spelled_counted B s b g.good own_spells own_counts

  module _ (r : Found) (f : Finds r s.lines b) where
    pub stage_fits : Fits s.lines (choice_of r.choice)
    stage_fits = fits B s b t g.good own_spells own_placed own_directed g.order r f

    pub stage_waits : all_wait s.lines (choice_of r.choice) (box_of s.lines s.mem) ≡ true
    stage_waits = waits B s b t g.good own_spells own_placed own_directed g.order r f

    -- the choice is transferred
    pub transferred_stage : (after : State) (u : ℕ) → after ≡ transfer_all s.lines (choice_of r.choice) s → Placed n u (gone n b) → Directed n (gone n b) → InOrder (gone n b) → Stage B n u k after (gone n b)
    transferred_stage after u e p d o =
        let ln : (transfer_all s.lines (choice_of r.choice) s).lines ≡ n = transferred_lines s.lines (choice_of r.choice) s ∙ g.lines in
        let sp = subst (λ (z : ℕ). Spells B z (transfer_all s.lines (choice_of r.choice) s).mem (gone z b)) g.lines (chosen_spells B s b t g.good own_spells own_placed own_directed g.order r f) in
        let ct = subst (λ (z : ℕ). Counts z (transfer_all s.lines (choice_of r.choice) s).counts (gone z b)) g.lines (chosen_counts B s b t g.good own_spells own_placed own_directed g.order r f own_counts) in
        subst (λ (z : State). Stage B n u k z (gone n b)) (sym e)
        (record {
          good = chosen_good B s b t g.good own_spells own_placed own_directed g.order r f;
          lines = ln;
          slots_had = transferred_slots s.lines (choice_of r.choice) s ∙ g.slots_had;
          spells = sp;
          counts = ct;
          placed = p;
          directed = d;
          order = o;
        })

  -- the earliest depart
  pub departed_stage : (after : State) (u : ℕ) → after ≡ depart_all s.lines s → Placed n u (depart b) → InOrder (depart b) → Stage B n u k after (depart b)
  departed_stage after u e p o =
      let sp = subst (λ (z : ℕ). Spells B z (depart_all s.lines s).mem (depart b)) g.lines (departed_spells B s b g.good own_spells own_counts own_placed.rising) in
      let ct = subst (λ (z : ℕ). Counts z (depart_all s.lines s).counts (depart b)) g.lines (departed_counts B s b g.good own_spells own_counts own_placed.rising) in
      subst (λ (z : State). Stage B n u k z (depart b)) (sym e)
      (record {
        good = departed_good s.lines s g.good stage_counted (omega arith);
        lines = departed-lines s.lines s ∙ g.lines;
        slots_had = departed-slots s.lines s ∙ g.slots_had;
        spells = sp;
        counts = ct;
        placed = p;
        directed = g.directed;
        order = o;
      })

  pub stage_bytes : departing_bytes s.lines s ≡ departed_bytes B n b
  stage_bytes =
      departed_bytes_lem B s b g.good own_spells own_counts own_placed.rising ∙ ap (λ (z : ℕ). departed_bytes B z b) g.lines

-- arrivals that bring cells for outputs that are there fit
pub brings_fit : (n : ℕ) (ls : List Line) → AllBring n ls → Fits n (arrivals_of ls)
brings_fit n ls b i o h e = (subst (λ (x : Arrival). Brings n x (get_or ls i no_line).body) e (b i h)).0

-- what departs, as the answer has it
dressed_is : (past : List SlotIn) (x : Option Cell) → dressed (body_in past) x ≡ with_body past x
dressed_is past None = refl
dressed_is past (Some c) = refl

pub bytes_are : (past : List SlotIn) (b : Box) (f : ℕ → Option Cell) → ((o : ℕ) → departs o b ≡ f o) → (k : ℕ) → departed_bytes (body_in past) k b ≡ leaving_all (map (λ o. with_body past (f o)) (range_with_len 0 k))
unfolding departed_bytes leaving_all
bytes_are past b f e zero = refl
bytes_are past b f e (suc k) =
    ap (λ (xs : List ℕ). xs ++ leaving (dressed (body_in past) (departs k b))) (bytes_are past b f e k)
    ∙ (ap (λ (d : Departure). leaving_all (map (λ o. with_body past (f o)) (range_with_len 0 k)) ++ leaving d) (dressed_is past (departs k b) ∙ ap (λ (x : Option Cell). with_body past x) (e k))
    ∙ (sym (leaving_push (map (λ o. with_body past (f o)) (range_with_len 0 k)) (with_body past (f k)))
    ∙ (ap (λ (ds : List Departure). leaving_all ds) (sym (map-range_with_len_more (λ o. with_body past (f o)) 0 k k (omega arith))) ∙ ap (λ (j : ℕ). leaving_all (map (λ o. with_body past (f o)) (range_with_len 0 j))) (add-one k))))
