-- A slot of the real box: the steps follow one another, and what comes of them is what the ideal box does.
use Rattle.std.proofs.Common.{◌≡◌, ℕ, suc, ◌*◌, ◌<◌, Bool, true, false, not, ◌&&◌, ltb, ◌⊎◌, List, [], ◌∷◌, map, length, get_or, take, Ok, sym, refl, ap, ◌∙◌, subst, inl, inr, ⊎_elim, arith}
use Rattle.std.specs.List.{range_with_len}
use Rattle.std.proofs.lemmas.List.{length-map}
use Rattle.std.proofs.lemmas.Bool.{lt-ltb}
use Rattle.crossbox.specs.declared.Arrival.TheVariants.{For}
use Rattle.crossbox.specs.Cells.{Arrivals}
use Rattle.crossbox.specs.Ideal.{departure, rejected}
use Rattle.crossbox.specs.Box.{Box, Run, Stable, arrive, arrived, depart}
use Rattle.crossbox.specs.Matching.{find}
use Rattle.crossbox.specs.Promise.{Fits, AllFit}
use Rattle.crossbox.specs.Shape.{InOrder}
use Rattle.crossbox.proofs.Shape.{Placed, Directed, arriving_directed, transfer_directed}
use Rattle.crossbox.proofs.Runs.{run_like, run_directed, arrived_like, transferred_like, departed_like, same-departures, same-rejected}
use Rattle.crossbox.proofs.Promise.{found_in_run}
use Rattle.buffer.specs.Lent.{lent_to, beyond}
use Rattle.words.specs.Lines.{no_line, judge, verdict}
use Rattle.words.specs.Writing.{Draft, appended, cleared}
use Rattle.words.specs.Numbers.{answer_kind}
use Rattle.words.specs.Answer.{leaving_all, flag_bytes}
use Rattle.words.proofs.Answered.{answer_written}
use Rattle.ideal.proofs.Loops.{flags_all}
use Rattle.matching.specs.declared.Found.{Found}
use Rattle.matching.specs.Table.{Finds}
use Rattle.cioq.specs.State.{State, Good, passed}
use Rattle.cioq.specs.Spells.{Spells, Counts}
use Rattle.cioq.specs.Arrivals.{arrivals_of, admit_all, away, slot_lines}
use Rattle.cioq.specs.Departures.{depart_all, departing_bytes}
use Rattle.cioq.specs.Choice.{choice_of}
use Rattle.cioq.specs.Transfers.{transfer_all}
use Rattle.cioq.specs.Kept.{PutThere}
use Rattle.cioq.proofs.Arrivals.{all_lines, all_slots, all_good, slot_bring, AllBring}
use Rattle.cioq.proofs.Arrived.{admitted_spells, admitted_counts, admitted-away}
use Rattle.cioq.proofs.Stays.{arrivals_stay, transfer_stays, departures_stay}
use Rattle.cioq.proofs.Bytes.{places_kept, transferred_cells, departed-cells}
use Rattle.switch.specs.Respond.{SlotIn, body_in, slot_of, with_body}
use Rattle.switch.specs.Respond as respond
use Rattle.switch.proofs.History.{body_new}
use Rattle.fabric.specs.Real.{Shows, gone, box_after, Runs}
use Rattle.switch.specs.Taking.{Serves}
use Rattle.fabric.proofs.History.{found-run, spells_on}
use Rattle.fabric.proofs.Stages.{Stage, stage_counted, stage_fits, stage_waits, transferred_stage, departed_stage, stage_bytes, brings_fit, bytes_are}

-- goodness does not depend on the number of slots
any_time : (s : State) → Good s → Good (passed s)
any_time s g =
    record {
      sound = g.sound;
      rooms = g.rooms;
      rows = g.rows;
      places = g.places;
      few = g.few;
      outputs = g.outputs;
      full = g.full;
      idle = g.idle;
      whole = g.whole;
      heads_lent = g.heads_lent;
      cells_lent = g.cells_lent;
      spare_lent = g.spare_lent;
    }

not-not : (b : Bool) → not (not b) ≡ b
not-not true = refl
not-not false = refl

box_next : (n : ℕ) (a : Arrivals) (ps : List Arrivals) → box_after n (a ∷ ps) ≡ gone n (depart (gone n (arrived 256 n ps a (box_after n ps))))
unfolding box_after
box_next n a ps = refl

all_fit_more : (n : ℕ) (a : Arrivals) (ps : List Arrivals) → Fits n a → AllFit n ps → AllFit n (a ∷ ps)
unfolding AllFit
all_fit_more n a ps f g = (f, g)

module _ (s : State) (past : List SlotIn) (bytes : List ℕ) (h : Runs s s.lines past) (ok : Ok tt ≡ verdict (judge s.lines 64 false bytes)) where
  time : length (respond.arrived past) ≡ length past
  time = length-map past (λ z. z.arrivals)

  brings : AllBring s.lines (slot_lines s.lines bytes)
  brings = slot_bring s.lines bytes ok

  fitting : Fits s.lines (arrivals_of (slot_lines s.lines bytes))
  fitting = brings_fit s.lines (slot_lines s.lines bytes) brings

  run : Run 256 s.lines (respond.arrived past) (box_after s.lines (respond.arrived past))
  run = found-run s.lines (respond.arrived past) h.fit

  -- the boxes of the model at the two transfers
  abbrev pub one : Box
  one = arrived 256 s.lines (respond.arrived past) (arrivals_of (slot_lines s.lines bytes)) (box_after s.lines (respond.arrived past))

  abbrev pub three : Box
  three = depart (gone s.lines (arrived 256 s.lines (respond.arrived past) (arrivals_of (slot_lines s.lines bytes)) (box_after s.lines (respond.arrived past))))

  stable_one : Stable (arrived 256 s.lines (respond.arrived past) (arrivals_of (slot_lines s.lines bytes)) (box_after s.lines (respond.arrived past))) (find s.lines (arrived 256 s.lines (respond.arrived past) (arrivals_of (slot_lines s.lines bytes)) (box_after s.lines (respond.arrived past))))
  stable_one = found_in_run 256 s.lines (respond.arrived past) (box_after s.lines (respond.arrived past)) h.fit run (arrivals_of (slot_lines s.lines bytes)) fitting

  directed_one : Directed s.lines one
  directed_one = arriving_directed s.lines 256 s.lines (length (respond.arrived past)) (arrivals_of (slot_lines s.lines bytes)) (box_after s.lines (respond.arrived past)) (omega arith) fitting (run_directed 256 s.lines h.fit run)

  abbrev pub new : List SlotIn
  new = slot_of (slot_lines s.lines bytes) ∷ past

  old_spells : Spells (body_in new) s.lines s.mem (box_after s.lines (respond.arrived past))
  old_spells =
      spells_on (slot_of (slot_lines s.lines bytes)) past s.lines s.mem (box_after s.lines (respond.arrived past)) (subst (λ (t : ℕ). Placed s.lines t (box_after s.lines (respond.arrived past))) time (run_like 256 s.lines run).placed) h.spells

  own_bytes : (i o : ℕ) → i < s.lines → arrivals_of (slot_lines s.lines bytes) i ≡ For o → body_in new (record { slot = s.slots; input = i; output = o }) ≡ (get_or (slot_lines s.lines bytes) i no_line).body
  own_bytes i o l e = body_new (slot_of (slot_lines s.lines bytes)) past (record { slot = s.slots; input = i; output = o }) h.slots

  clock : s.slots ≡ length (respond.arrived past)
  clock = h.slots ∙ sym time

  -- what is turned away is what the ideal box turns away
  pub away_is : (i : ℕ) → i < s.lines → away (slot_lines s.lines bytes) s i ≡ rejected 256 s.lines i (respond.arrived past) (slot_of (slot_lines s.lines bytes)).arrivals
  away_is i k =
      admitted-away (body_in new) (slot_lines s.lines bytes) s (box_after s.lines (respond.arrived past)) h.good brings old_spells h.counts own_bytes i k
      ∙ (ap (λ (b : Bool). not b) (same-rejected 256 s.lines (respond.arrived past) (box_after s.lines (respond.arrived past)) run (arrivals_of (slot_lines s.lines bytes)) i) ∙ not-not (rejected 256 s.lines i (respond.arrived past) (arrivals_of (slot_lines s.lines bytes))))

  -- cells have arrived
  pub first_stage : (s₁ : State) → s₁ ≡ admit_all (slot_lines s.lines bytes) s.lines s → Stage (body_in new) s.lines (suc (length (respond.arrived past))) s.slots s₁ one
  first_stage s₁ e =
      let like = arrived_like 256 s.lines (respond.arrived past) (box_after s.lines (respond.arrived past)) run (arrivals_of (slot_lines s.lines bytes)) in
      let ls = slot_lines s.lines bytes in
      subst (λ (z : State). Stage (body_in new) s.lines (suc (length (respond.arrived past))) s.slots z (arrived 256 s.lines (respond.arrived past) (arrivals_of ls) (box_after s.lines (respond.arrived past)))) (sym e)
      (record {
        good = all_good ls s.lines s h.good (omega arith) brings;
        lines = all_lines ls s.lines s;
        slots_had = all_slots ls s.lines s;
        spells = subst (λ (t : ℕ). Spells (body_in new) s.lines (admit_all ls s.lines s).mem (arrive 256 s.lines t (arrivals_of ls) (box_after s.lines (respond.arrived past)))) clock (admitted_spells (body_in new) ls s (box_after s.lines (respond.arrived past)) h.good brings old_spells h.counts own_bytes s.lines (omega arith));
        counts = subst (λ (t : ℕ). Counts s.lines (admit_all ls s.lines s).counts (arrive 256 s.lines t (arrivals_of ls) (box_after s.lines (respond.arrived past)))) clock (admitted_counts (body_in new) ls s (box_after s.lines (respond.arrived past)) h.good brings old_spells h.counts own_bytes s.lines (omega arith));
        placed = like.placed;
        directed = directed_one;
        order = like.order;
      })

  module _ (s₁ s₂ s₃ s₄ : State) (r₁ r₂ : Found) (e₁ : s₁ ≡ admit_all (slot_lines s.lines bytes) s.lines s) (e₂ : s₂ ≡ transfer_all s₁.lines (choice_of r₁.choice) s₁) (f₁ : Finds r₁ s₁.lines one) (e₃ : s₃ ≡ depart_all s₂.lines s₂) where
    -- and what was found has been transferred
    pub second_stage : Stage (body_in new) s.lines (suc (length (respond.arrived past))) s.slots s₂ (gone s.lines one)
    second_stage =
        let like = transferred_like 256 s.lines (respond.arrived past) (box_after s.lines (respond.arrived past)) run (arrivals_of (slot_lines s.lines bytes)) (find s.lines one) stable_one in
        transferred_stage (body_in new) s.lines (suc (length (respond.arrived past))) s.slots s₁ one (first_stage s₁ e₁) r₁ f₁ s₂ (suc (length (respond.arrived past))) e₂ like.placed (transfer_directed s.lines one (find s.lines one) directed_one) like.order

    -- and the earliest have departed
    pub third_stage : Stage (body_in new) s.lines (suc (length (respond.arrived past))) s.slots s₃ three
    third_stage =
        let like = departed_like 256 s.lines (respond.arrived past) (box_after s.lines (respond.arrived past)) run (arrivals_of (slot_lines s.lines bytes)) (find s.lines one) stable_one in
        departed_stage (body_in new) s.lines (suc (length (respond.arrived past))) s.slots s₂ (gone s.lines one) second_stage s₃ (suc (length (respond.arrived past))) e₃ like.placed like.order

    -- what departs is what departs from the ideal box
    departures : departing_bytes s₂.lines s₂ ≡ leaving_all (map (λ o. with_body new (departure 256 s.lines o (respond.arrived past) (slot_of (slot_lines s.lines bytes)).arrivals)) (range_with_len 0 s.lines))
    departures =
        stage_bytes (body_in new) s.lines (suc (length (respond.arrived past))) s.slots s₂ (gone s.lines one) second_stage
        ∙ bytes_are new (gone s.lines one) (λ o. departure 256 s.lines o (respond.arrived past) (arrivals_of (slot_lines s.lines bytes))) (same-departures 256 s.lines (respond.arrived past) (box_after s.lines (respond.arrived past)) run (arrivals_of (slot_lines s.lines bytes)) (find s.lines one) stable_one) s.lines

    module _ (e₄ : s₄ ≡ transfer_all s₃.lines (choice_of r₂.choice) s₃) (f₂ : Finds r₂ s₃.lines three) where
      lines₁ : s₁.lines ≡ s.lines
      lines₁ = (first_stage s₁ e₁).lines

      -- the model's box after the slot is reached by a run
      run_on : Run 256 s.lines (arrivals_of (slot_lines s.lines bytes) ∷ respond.arrived past) (box_after s.lines (arrivals_of (slot_lines s.lines bytes) ∷ respond.arrived past))
      run_on = found-run s.lines (arrivals_of (slot_lines s.lines bytes) ∷ respond.arrived past) (all_fit_more s.lines (arrivals_of (slot_lines s.lines bytes)) (respond.arrived past) fitting h.fit)

      next_box : box_after s.lines (arrivals_of (slot_lines s.lines bytes) ∷ respond.arrived past) ≡ gone s.lines three
      next_box = box_next s.lines (arrivals_of (slot_lines s.lines bytes)) (respond.arrived past)

      pub fourth_stage : Stage (body_in new) s.lines (length (arrivals_of (slot_lines s.lines bytes) ∷ respond.arrived past)) s.slots s₄ (gone s.lines three)
      fourth_stage =
          let like = run_like 256 s.lines run_on in
          transferred_stage (body_in new) s.lines (suc (length (respond.arrived past))) s.slots s₃ three third_stage r₂ f₂ s₄ (length (arrivals_of (slot_lines s.lines bytes) ∷ respond.arrived past)) e₄
          (subst (λ (b : Box). Placed s.lines (length (arrivals_of (slot_lines s.lines bytes) ∷ respond.arrived past)) b) next_box like.placed)
          (subst (λ (b : Box). Directed s.lines b) next_box (run_directed 256 s.lines (all_fit_more s.lines (arrivals_of (slot_lines s.lines bytes)) (respond.arrived past) fitting h.fit) run_on))
          (subst (λ (b : Box). InOrder b) next_box like.order)

      runs_on : Runs (passed s₄) s.lines new
      runs_on =
          let g = fourth_stage in
          record {
            good = any_time s₄ g.good;
            set = h.set;
            lines = g.lines;
            slots = omega (arith, g.slots_had, h.slots);
            fit = all_fit_more s.lines (arrivals_of (slot_lines s.lines bytes)) (respond.arrived past) fitting h.fit;
            spells = subst (λ (b : Box). Spells (body_in new) s.lines s₄.mem b) (sym next_box) g.spells;
            counts = subst (λ (b : Box). Counts s.lines s₄.counts b) (sym next_box) g.counts;
          }

      flags_are : (flags : List Bool) → length flags ≡ 32 → ((i : ℕ) → i < 32 → get_or flags i false ≡ (ltb i s.lines && away (slot_lines s.lines bytes) s i)) → take s.lines flags ≡ map (λ i. rejected 256 s.lines i (respond.arrived past) (slot_of (slot_lines s.lines bytes)).arrivals) (range_with_len 0 s.lines)
      flags_are flags l w =
          flags_all (λ i. rejected 256 s.lines i (respond.arrived past) (slot_of (slot_lines s.lines bytes)).arrivals) flags s.lines l h.good.few
          (λ i k.
          w i (omega (arith, h.good.few))
          ∙ (ap (λ (b : Bool). b && away (slot_lines s.lines bytes) s i) (lt-ltb i s.lines k)
          ∙ away_is i k))

      left : beyond (257 * s.lines) (16448 * s.lines) (lent_to s₄.mem) ≡ beyond (257 * s.lines) (16448 * s.lines) (lent_to s.mem)
      left =
          let ls = slot_lines s.lines bytes in
          let l₂ = second_stage.lines in
          let l₃ = third_stage.lines in
          let g₁ = first_stage s₁ e₁ in
          let a₁ : beyond (257 * s.lines) (16448 * s.lines) (lent_to s₁.mem) ≡ beyond (257 * s.lines) (16448 * s.lines) (lent_to s.mem) = ap (λ (z : State). beyond (257 * s.lines) (16448 * s.lines) (lent_to z.mem)) e₁ ∙ (arrivals_stay s ls h.good brings).left in
          let a₂ : beyond (257 * s₁.lines) (16448 * s₁.lines) (lent_to s₂.mem) ≡ beyond (257 * s₁.lines) (16448 * s₁.lines) (lent_to s₁.mem) = ap (λ (z : State). beyond (257 * s₁.lines) (16448 * s₁.lines) (lent_to z.mem)) e₂ ∙ (transfer_stays s₁ (choice_of r₁.choice) g₁.good (stage_fits (body_in new) s.lines (suc (length (respond.arrived past))) s.slots s₁ one g₁ r₁ f₁) (stage_waits (body_in new) s.lines (suc (length (respond.arrived past))) s.slots s₁ one g₁ r₁ f₁)).left in
          let a₃ : beyond (257 * s₂.lines) (16448 * s₂.lines) (lent_to s₃.mem) ≡ beyond (257 * s₂.lines) (16448 * s₂.lines) (lent_to s₂.mem) = ap (λ (z : State). beyond (257 * s₂.lines) (16448 * s₂.lines) (lent_to z.mem)) e₃ ∙ (departures_stay s₂ second_stage.good (stage_counted (body_in new) s.lines (suc (length (respond.arrived past))) s.slots s₂ (gone s.lines one) second_stage)).left in
          let a₄ : beyond (257 * s₃.lines) (16448 * s₃.lines) (lent_to s₄.mem) ≡ beyond (257 * s₃.lines) (16448 * s₃.lines) (lent_to s₃.mem) = ap (λ (z : State). beyond (257 * s₃.lines) (16448 * s₃.lines) (lent_to z.mem)) e₄ ∙ (transfer_stays s₃ (choice_of r₂.choice) third_stage.good (stage_fits (body_in new) s.lines (suc (length (respond.arrived past))) s.slots s₃ three third_stage r₂ f₂) (stage_waits (body_in new) s.lines (suc (length (respond.arrived past))) s.slots s₃ three third_stage r₂ f₂)).left in
          let same : (k : ℕ) (x y : State) → k ≡ s.lines → beyond (257 * k) (16448 * k) (lent_to x.mem) ≡ beyond (257 * k) (16448 * k) (lent_to y.mem) → beyond (257 * s.lines) (16448 * s.lines) (lent_to x.mem) ≡ beyond (257 * s.lines) (16448 * s.lines) (lent_to y.mem) = λ k x y e p. subst (λ (z : ℕ). beyond (257 * z) (16448 * z) (lent_to x.mem) ≡ beyond (257 * z) (16448 * z) (lent_to y.mem)) e p in
          same s₃.lines s₄ s₃ l₃ a₄ ∙ (same s₂.lines s₃ s₂ l₂ a₃ ∙ (same s₁.lines s₂ s₁ lines₁ a₂ ∙ a₁))

      cells_are : s₄.mem.cells ≡ (admit_all (slot_lines s.lines bytes) s.lines s).mem.cells
      cells_are =
          ap (λ (z : State). z.mem.cells) e₄ ∙ (transferred_cells s₃ (choice_of r₂.choice) s₃.lines
          ∙ (ap (λ (z : State). z.mem.cells) e₃ ∙ (departed-cells s₂ s₂.lines
          ∙ (ap (λ (z : State). z.mem.cells) e₂ ∙ (transferred_cells s₁ (choice_of r₁.choice) s₁.lines ∙ ap (λ (z : State). z.mem.cells) e₁)))))

      places : (p : ℕ) → (get_or s₄.mem.cells p [] ≡ get_or s.mem.cells p []) ⊎ PutThere s (slot_lines s.lines bytes) s.lines s₄.mem p
      places p =
          let e = ap (λ (cs : List (List ℕ)). get_or cs p []) cells_are in
          ⊎_elim (λ q. inl (e ∙ q))
          (λ q. inr (record { input = q.input; output = q.output; there = q.there; arrives = q.arrives; taken = q.taken; free = q.free; bytes = e ∙ q.bytes }))
          (places_kept.arrivals s (slot_lines s.lines bytes) h.good brings p)

      -- the slot as a whole
      pub slot_served : (start begun departed last : Draft) (flags : List Bool) → length flags ≡ 32 → ((i : ℕ) → i < 32 → get_or flags i false ≡ (ltb i s.lines && away (slot_lines s.lines bytes) s i)) → begun ≡ appended (answer_kind ∷ []) (cleared start) → departed ≡ appended (departing_bytes s₂.lines s₂) begun → last ≡ appended (flag_bytes (take s.lines flags)) departed → Serves (Shows (passed s₄)) 16448 s.lines past (slot_lines s.lines bytes) (lent_to s.mem) (lent_to s₄.mem) start last
      slot_served start begun departed last flags l w b e k =
          let told = k ∙ ap (λ (fs : List Bool). appended (flag_bytes fs) departed) (flags_are flags l w)
          ∙ ap (λ (d : Draft). appended (flag_bytes (map (λ i. rejected 256 s.lines i (respond.arrived past) (slot_of (slot_lines s.lines bytes)).arrivals) (range_with_len 0 s.lines))) d)
          (e ∙ ap (λ (bs : List ℕ). appended bs begun) departures
          ∙ ap (λ (d : Draft). appended (leaving_all (map (λ o. with_body new (departure 256 s.lines o (respond.arrived past) (slot_of (slot_lines s.lines bytes)).arrivals)) (range_with_len 0 s.lines))) d) b) in
          record {
            shown = runs_on;
            answer = answer_written last start _ _ told;
            left = left;
            places = λ p. ⊎_elim (λ q. inl q)
                (λ q. inr (record { input = q.input; output = q.output; there = q.there; arrives = q.arrives; taken = sym (away_is q.input q.there) ∙ q.taken; free = q.free; bytes = q.bytes }))
                (places p);
          }
