-- A slot stays within what the settings need, and changes a place's bytes only where it puts a cell.
use Rattle.std.proofs.Common.{◌≡◌, ℕ, zero, suc, ◌+◌, ◌*◌, ◌<◌, ◌≤◌, Bool, true, false, cond, not, eqb, ltb, ◌⊎◌, List, [], length, get_or, set, sym, refl, ap, ◌∙◌, subst, inl, inr, ⊎_elim, mul-le-mul_right, suc-mul, arith}
use Rattle.std.proofs.lemmas.List.{get_or-set_same, get_or-set_other}
use Rattle.std.proofs.lemmas.Bool.{cases_Bool, cases_eq, ltb-true}
use Rattle.crossbox.specs.declared.Arrival.{Arrival}
use Rattle.crossbox.specs.declared.Arrival.TheVariants.{Nothing, For}
use Rattle.crossbox.specs.declared.Cell.{Cell}
use Rattle.places.specs.declared.Head.{Head}
use Rattle.buffer.specs.Memory.{Mem, head_at, row_length, next, put, remove}
use Rattle.buffer.specs.Lent.{lent_to, beyond, within}
use Rattle.buffer.proofs.Safety.{next_in}
use Rattle.buffer.proofs.Put.{next_owned, head_there, head_elsewhere}
use Rattle.buffer.proofs.Within.{put-beyond, put-within, remove-beyond, remove-within, reset-beyond, reset-within}
use Rattle.words.specs.Lines.{Line, no_line}
use Rattle.ideal.specs.State.{State, Good}
use Rattle.ideal.specs.Steps.{Brings, lines_of, turned_away, admit_in, admit_all, depart_one, depart_all}
use Rattle.ideal.specs.Kept.{PutThere, SlotStaysWithin, SettingsStayWithin, PlacesKept}
use Rattle.ideal.proofs.Room.{place_left}
use Rattle.ideal.proofs.Good.{with, Bring, bring_at, reads_bring, admit_all_good, depart_all_good, not-zero}

-- a memory of n lines stays within them, and what it becomes does not depend on the rest
pub record Within (n : ℕ) (f : Mem → Mem) (m : Mem) : Type 0 where
  pub left : beyond (257 * n) (256 * n) (lent_to (f m)) ≡ beyond (257 * n) (256 * n) (lent_to m)
  pub read : within (257 * n) (256 * n) (f m) ≡ f (within (257 * n) (256 * n) m)

module _ (s : State) (g : Good s) (o : ℕ) (h : o < s.lines) where
  in_count : o < s.mem.count
  in_count = omega (arith, g.few, g.queues)

  in_span : o * s.mem.room + s.mem.room ≤ 256 * s.lines
  in_span =
      let l : suc o ≤ s.lines = omega arith in
      subst (λ (r : ℕ). o * r + r ≤ 256 * s.lines) (sym g.rooms) (omega (arith, suc-mul o 256, mul-le-mul_right 256 l))

  put_stays : (c : Cell) (body : List ℕ) → row_length s.mem o < 256 → Within s.lines (λ m. put o (row_length m o) c body m) s.mem
  put_stays c body lt =
      let few : row_length s.mem o < s.mem.room = omega (arith, g.rooms) in
      let some = place_left s g (omega arith) in
      record {
        left = subst (λ (p : ℕ). beyond p (256 * s.lines) (lent_to (put o (row_length s.mem o) c body s.mem)) ≡ beyond p (256 * s.lines) (lent_to s.mem)) g.places (put-beyond s.mem o (row_length s.mem o) (256 * s.lines) g.sound in_count in_span c body (omega arith) few some);
        read = subst (λ (p : ℕ). within p (256 * s.lines) (put o (row_length s.mem o) c body s.mem) ≡ put o (row_length s.mem o) c body (within p (256 * s.lines) s.mem)) g.places (put-within s.mem o (row_length s.mem o) (256 * s.lines) g.sound in_count in_span c body (omega arith) few some);
      }

  remove_stays : 0 < row_length s.mem o → Within s.lines (remove o 0) s.mem
  remove_stays lt =
      record {
        left = subst (λ (p : ℕ). beyond p (256 * s.lines) (lent_to (remove o 0 s.mem)) ≡ beyond p (256 * s.lines) (lent_to s.mem)) g.places (remove-beyond s.mem o 0 (256 * s.lines) g.sound in_count in_span lt);
        read = subst (λ (p : ℕ). within p (256 * s.lines) (remove o 0 s.mem) ≡ remove o 0 (within p (256 * s.lines) s.mem)) g.places (remove-within s.mem o 0 (256 * s.lines) g.sound in_count in_span lt);
      }

same_stays : (n : ℕ) (m : Mem) → Within n (λ x. x) m
same_stays n m = record { left = refl; read = refl }

-- by a test that reads only the rows' lengths
choice_stays : (n : ℕ) (m : Mem) (w : List ℕ → Bool) (f k : Mem → Mem) → (w m.lens ≡ true → Within n f m) → (w m.lens ≡ false → Within n k m) → Within n (λ x. cond (w x.lens) (f x) (k x)) m
choice_stays n m w f k a b =
    elim (cases_Bool (w m.lens)) [
      | inl e ↦ record { left = subst (λ v. beyond (257 * n) (256 * n) (lent_to (cond v (f m) (k m))) ≡ beyond (257 * n) (256 * n) (lent_to m)) (sym e) (a e).left; read = subst (λ v. within (257 * n) (256 * n) (cond v (f m) (k m)) ≡ cond v (f (within (257 * n) (256 * n) m)) (k (within (257 * n) (256 * n) m))) (sym e) (a e).read }
      | inr e ↦ record { left = subst (λ v. beyond (257 * n) (256 * n) (lent_to (cond v (f m) (k m))) ≡ beyond (257 * n) (256 * n) (lent_to m)) (sym e) (b e).left; read = subst (λ v. within (257 * n) (256 * n) (cond v (f m) (k m)) ≡ cond v (f (within (257 * n) (256 * n) m)) (k (within (257 * n) (256 * n) m))) (sym e) (b e).read }
    ]

admit_stays : (s : State) (t i : ℕ) (x : Arrival) (body : List ℕ) → Good s → Brings s.lines x body → Within s.lines (admit_in t i x body) s.mem
admit_stays s t i Nothing body g b = same_stays s.lines s.mem
admit_stays s t i (For o) body g b =
    choice_stays s.lines s.mem (λ lens. ltb (get_or lens o 0) 256) _ _ (λ e. put_stays s g o b.0 _ body (ltb-true (row_length s.mem o) 256 e)) (λ e. same_stays s.lines s.mem)

depart_stays : (s : State) (o : ℕ) → Good s → o < s.lines → Within s.lines (depart_one o) s.mem
depart_stays s o g h =
    choice_stays s.lines s.mem (λ lens. eqb (get_or lens o 0) 0) _ _ (λ e. same_stays s.lines s.mem) (λ e. remove_stays s g o h (not-zero (row_length s.mem o) e))

-- one step after another
then_stays : (n : ℕ) (f k : Mem → Mem) (m : Mem) → Within n f m → Within n k (f m) → Within n (λ x. k (f x)) m
then_stays n f k m a b =
    record {
      left = b.left ∙ a.left;
      read = b.read ∙ ap k a.read;
    }

admit_all_stays : (s : State) (t : ℕ) (ls : List Line) → Good s → Bring s.lines ls → (k : ℕ) → k ≤ s.lines → Within s.lines (admit_all t ls k) s.mem
unfolding admit_all
admit_all_stays s t ls g b zero h = same_stays s.lines s.mem
admit_all_stays s t ls g b (suc k) h =
    then_stays s.lines (admit_all t ls k) (admit_in t k (get_or ls k no_line).arrival (get_or ls k no_line).body) s.mem (admit_all_stays s t ls g b k (omega arith))
    (admit_stays (with s (admit_all t ls k s.mem)) t k (get_or ls k no_line).arrival (get_or ls k no_line).body (admit_all_good s t ls k g b (omega arith)) (bring_at s.lines ls k b (omega arith)))

depart_all_stays : (s : State) → Good s → (k : ℕ) → k ≤ s.lines → Within s.lines (depart_all k) s.mem
unfolding depart_all
depart_all_stays s g zero h = same_stays s.lines s.mem
depart_all_stays s g (suc k) h =
    then_stays s.lines (depart_all k) (depart_one k) s.mem (depart_all_stays s g k (omega arith))
    (depart_stays (with s (depart_all k s.mem)) k (depart_all_good s k g (omega arith)) (omega arith))

pub slot_stays : SlotStaysWithin
slot_stays s bytes g r =
    let ls = lines_of s.lines bytes in
    let b = reads_bring s.lines bytes r in
    let one = with s (admit_all s.slots ls s.lines s.mem) in
    let w = then_stays s.lines (admit_all s.slots ls s.lines) (depart_all s.lines) s.mem (admit_all_stays s s.slots ls g b s.lines (omega arith)) (depart_all_stays one (admit_all_good s s.slots ls s.lines g b (omega arith)) s.lines (omega arith)) in
    (w.left, ap (λ (m : Mem). record { mem = m; lines = s.lines; slots = s.slots + 1 }) w.read)

pub settings_stay : SettingsStayWithin
settings_stay s n g h =
    let hs : 257 * n ≤ length s.mem.heads = omega (arith, g.heads_lent) in
    let ss : 257 * n ≤ length s.mem.spare = omega (arith, g.spare_lent) in (
      reset-beyond s.mem (257 * n) hs ss (256 * n),
      ap (λ (m : Mem). record { mem = m; lines = n; slots = 0 }) (reset-within s.mem (257 * n) hs ss (256 * n)),
    )

-- departures change no bytes
depart-cells : (o : ℕ) (m : Mem) → (depart_one o m).cells ≡ m.cells
depart-cells o m =
    elim (cases_Bool (eqb (row_length m o) 0)) [
      | inl e ↦ ap (λ (w : Bool). (cond w m (remove o 0 m)).cells) e
      | inr e ↦ ap (λ (w : Bool). (cond w m (remove o 0 m)).cells) e
    ]

depart_all-cells : (k : ℕ) (m : Mem) → (depart_all k m).cells ≡ m.cells
unfolding depart_all
depart_all-cells zero m = refl
depart_all-cells (suc k) m = depart-cells k (depart_all k m) ∙ depart_all-cells k m

-- place p after the lines of the first k inputs: its bytes, and that it was free if it is
record Place (s : State) (ls : List Line) (k : ℕ) (m : Mem) (p : ℕ) : Type 0 where
  bytes : (get_or m.cells p [] ≡ get_or s.mem.cells p []) ⊎ PutThere s ls k m p
  free : (head_at m p).owner ≡ 0 → (head_at s.mem p).owner ≡ 0

-- a place that is as it was
same_place : (s : State) (ls : List Line) (k : ℕ) (m m' : Mem) (p : ℕ) → get_or m'.cells p [] ≡ get_or m.cells p [] → head_at m' p ≡ head_at m p → Place s ls k m p → Place s ls (suc k) m' p
same_place s ls k m m' p e f pl =
    record {
      bytes = ⊎_elim (λ q. inl (e ∙ q)) (λ q. inr (record { input = q.input; output = q.output; there = omega (arith, q.there); arrives = q.arrives; taken = q.taken; free = q.free; bytes = e ∙ q.bytes })) pl.bytes;
      free = λ z. pl.free (sym (ap (λ (x : Head). x.owner) f) ∙ z);
    }

module _ (s : State) (ls : List Line) (k : ℕ) (m : Mem) (g : Good (with s m)) (is : m ≡ admit_all s.slots ls k s.mem) where
  put_place : (o : ℕ) → o < s.lines → (get_or ls k no_line).arrival ≡ For o → ltb (row_length m o) 256 ≡ true → (p : ℕ) → Place s ls k m p → Place s ls (suc k) (put o (row_length m o) (record { slot = s.slots; input = k; output = o }) (get_or ls k no_line).body m) p
  put_place o h arr e p pl =
      let c : Cell = record { slot = s.slots; input = k; output = o } in
      let body = (get_or ls k no_line).body in
      let in_count : o < m.count = omega (arith, g.few, g.queues) in
      let few : row_length m o < m.room = omega (arith, g.rooms, ltb-true (row_length m o) 256 e) in
      let some = place_left (with s m) g (omega arith) in
      let there = head_there m o (row_length m o) c body g.sound in_count (omega arith) few some in
      let i : next m < length m.cells = omega (arith, next_in m g.sound some, g.sound.cells_reach) in
      elim (cases_eq p (next m)) [
        | inl q ↦
            record {
              bytes = inr (record { input = k; output = o; there = omega arith; arrives = arr; taken = ap (λ (z : Mem). turned_away z (get_or ls k no_line).arrival) (sym is) ∙ (ap (λ (x : Arrival). turned_away m x) arr ∙ ap (λ (b : Bool). not b) e); free = pl.free (ap (λ (z : ℕ). (head_at m z).owner) q ∙ (next_owned m o (row_length m o) c body g.sound in_count (omega arith) few some).1); bytes = ap (λ (z : ℕ). get_or (set m.cells (next m) body) z []) q ∙ get_or-set_same m.cells (next m) body [] i });
              free = λ z. absurd (let w : ◌≡◌ {A = ℕ} (o + 1) 0 = sym (ap (λ (x : Head). x.owner) there) ∙ (ap (λ (y : ℕ). (head_at (put o (row_length m o) c body m) y).owner) (sym q) ∙ z) in omega arith);
            }
        | inr ne ↦ same_place s ls k m (put o (row_length m o) c body m) p (get_or-set_other m.cells (next m) p body [] ne) (head_elsewhere m o (row_length m o) c body g.sound in_count (omega arith) few some p (λ z. ne (sym z))) pl
      ]

  admit_place : (x : Arrival) → (get_or ls k no_line).arrival ≡ x → Brings s.lines x (get_or ls k no_line).body → (p : ℕ) → Place s ls k m p → Place s ls (suc k) (admit_in s.slots k x (get_or ls k no_line).body m) p
  admit_place Nothing e b p pl = same_place s ls k m m p refl refl pl
  admit_place (For o) e b p pl =
      let c : Cell = record { slot = s.slots; input = k; output = o } in
      let P : Bool → Type 0 = λ w. Place s ls (suc k) (cond w (put o (row_length m o) c (get_or ls k no_line).body m) m) p in
      elim (cases_Bool (ltb (row_length m o) 256)) [
        | inl t ↦ subst P (sym t) (put_place o b.0 e t p pl)
        | inr t ↦ subst P (sym t) (same_place s ls k m m p refl refl pl)
      ]

places_admitted : (s : State) (ls : List Line) → Good s → Bring s.lines ls → (k : ℕ) → k ≤ s.lines → (p : ℕ) → Place s ls k (admit_all s.slots ls k s.mem) p
unfolding admit_all
places_admitted s ls g b zero h p = record { bytes = inl refl; free = λ z. z }
places_admitted s ls g b (suc k) h p =
    admit_place s ls k (admit_all s.slots ls k s.mem) (admit_all_good s s.slots ls k g b (omega arith)) refl (get_or ls k no_line).arrival refl (bring_at s.lines ls k b (omega arith)) p (places_admitted s ls g b k (omega arith) p)

pub places_kept : PlacesKept
places_kept s bytes g r p =
    let ls = lines_of s.lines bytes in
    let m = admit_all s.slots ls s.lines s.mem in
    let e = ap (λ (cs : List (List ℕ)). get_or cs p []) (depart_all-cells s.lines m) in
    let pl = places_admitted s ls g (reads_bring s.lines bytes r) s.lines (omega arith) p in
    ⊎_elim (λ q. inl (e ∙ q)) (λ q. inr (record { input = q.input; output = q.output; there = q.there; arrives = q.arrives; taken = q.taken; free = q.free; bytes = e ∙ q.bytes })) pl.bytes
