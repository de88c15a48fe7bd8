-- Reading line after line: what is left to read, with what is known of the lines before.
use Rattle.std.proofs.Common.{◌≡◌, ℕ, zero, suc, ◌<◌, ◌≤◌, Bool, true, false, cond, ◌&&◌, List, [], ◌∷◌, length, Some, None, Ok, Err, Option, sym, refl, ap, ◌∙◌, subst, arith}
use Rattle.words.specs.declared.fault.Fault.TheVariants.{Malformed, NoSuchOutput, SlotLimit}
use Rattle.words.specs.Lines.{Line, read_entry, read_lines, before, fits, all_fit, judged, judge, verdict}

-- whether all lines fit, of those before and those that were read
abbrev pub scanned : ℕ → Bool → Option (List Line) → Option Bool
scanned n all None = None
scanned n all (Some ls) = Some (all && all_fit n ls)

unfoldable pub scan : ℕ → ℕ → ℕ → Bool → List ℕ → Option Bool
scan n size left all bytes = scanned n all (read_lines size left bytes)

and_assoc : (a b c : Bool) → ((a && b) && c) ≡ (a && (b && c))
and_assoc true b c = refl
and_assoc false b c = refl

pub and_true : (a : Bool) → (a && true) ≡ a
and_true true = refl
and_true false = refl

scanned-before : (n : ℕ) (all : Bool) (l : Line) (o : Option (List Line)) →
    scanned n (all && fits n l.arrival) o ≡ scanned n all (before l o)
unfolding all_fit
scanned-before n all l None = refl
scanned-before n all l (Some ls) = ap (λ (b : Bool). Some b) (and_assoc all (fits n l.arrival) (all_fit n ls))

pub scan_step : (n size left : ℕ) (all : Bool) (bytes : List ℕ) (l : Line) (rest : List ℕ) (next : ℕ) (fit : Bool) →
    left ≡ suc next → fit ≡ fits n l.arrival → Some (l, rest) ≡ read_entry size bytes →
    scan n size next (all && fit) rest ≡ scan n size left all bytes
unfolding scan read_lines
scan_step n size zero all bytes l rest next fit h f e = absurd (omega arith)
scan_step n size (suc k) all bytes l rest next fit h f e =
    let less : next ≡ k = omega arith in
    rw (less, f, ← e) (scanned-before n all l (read_lines size k rest))

pub scan-cut : (n size left : ℕ) (all : Bool) (bytes : List ℕ) →
    0 < left → None ≡ read_entry size bytes → scan n size left all bytes ≡ None
unfolding scan read_lines
scan-cut n size zero all bytes h e = absurd (omega arith)
scan-cut n size (suc k) all bytes h e = rw (← e)

pub scan-more : (n size left : ℕ) (all : Bool) (bytes : List ℕ) →
    left ≤ 0 → 0 < length bytes → scan n size left all bytes ≡ None
unfolding scan read_lines
scan-more n size (suc k) all bytes z h = absurd (omega arith)
scan-more n size zero all [] z h = absurd (omega arith)
scan-more n size zero all (b ∷ bytes) z h = refl

pub scan_end : (n size left : ℕ) (all : Bool) (bytes : List ℕ) →
    left ≤ 0 → length bytes ≤ 0 → scan n size left all bytes ≡ Some all
unfolding scan read_lines all_fit
scan_end n size (suc k) all bytes z h = absurd (omega arith)
scan_end n size zero all [] z h = ap (λ (b : Bool). Some b) (and_true all)
scan_end n size zero all (b ∷ bytes) z h = absurd (omega arith)

module _ (n : ℕ) (late : Bool) where
  cut : (o : Option (List Line)) → scanned n true o ≡ None → Err Malformed ≡ verdict (judged n late o)
  cut None e = refl
  cut (Some ls) e = absurd (let z : ◌≡◌ {A = ℕ} 0 1 = cc in omega arith)

  misfit : (o : Option (List Line)) → scanned n true o ≡ Some false → Err NoSuchOutput ≡ verdict (judged n late o)
  misfit None e = absurd (let z : ◌≡◌ {A = ℕ} 0 1 = cc in omega arith)
  misfit (Some ls) e = let f : all_fit n ls ≡ false = cc in rw f

  good : (o : Option (List Line)) → scanned n true o ≡ Some true →
      cond late (Err SlotLimit) (Ok tt) ≡ verdict (judged n late o)
  good None e = absurd (let z : ◌≡◌ {A = ℕ} 0 1 = cc in omega arith)
  good (Some ls) e =
      let f : all_fit n ls ≡ true = cc in
      rw f (elim late as (λ w. cond w (Err SlotLimit) (Ok tt) ≡ verdict (cond w (Err SlotLimit) (Ok ls))) [ true ↦ refl | false ↦ refl ])

-- what is judged where the reading stands, at `rest` with `left` lines to come
module _ (n size : ℕ) (late : Bool) (bytes : List ℕ) (left : ℕ) (all : Bool) (rest : List ℕ)
    (inv : scan n size left all rest ≡ scan n size n true bytes) where
  pub judge-cut : 0 < left → None ≡ read_entry size rest → Err Malformed ≡ verdict (judge n size late bytes)
  unfolding scan
  judge-cut h e = cut n late (read_lines size n bytes) (sym inv ∙ scan-cut n size left all rest h e)

  pub judge-more : left ≤ 0 → 0 < length rest → Err Malformed ≡ verdict (judge n size late bytes)
  unfolding scan
  judge-more z h = cut n late (read_lines size n bytes) (sym inv ∙ scan-more n size left all rest z h)

  ended : left ≤ 0 → length rest ≤ 0 → (b : Bool) → all ≡ b → scan n size n true bytes ≡ Some b
  ended z h b e = sym inv ∙ scan_end n size left all rest z h ∙ ap (λ (w : Bool). Some w) e

  pub judge_misfit : left ≤ 0 → length rest ≤ 0 → all ≡ false → Err NoSuchOutput ≡ verdict (judge n size late bytes)
  unfolding scan
  judge_misfit z h e = misfit n late (read_lines size n bytes) (ended z h false e)

  pub judge_late : left ≤ 0 → length rest ≤ 0 → all ≡ true → late ≡ true → Err SlotLimit ≡ verdict (judge n size late bytes)
  unfolding scan
  judge_late z h e t =
      subst (λ w. cond w (Err SlotLimit) (Ok tt) ≡ verdict (judge n size late bytes)) t
      (good n late (read_lines size n bytes) (ended z h true e))

  pub judge_good : left ≤ 0 → length rest ≤ 0 → all ≡ true → late ≡ false → Ok tt ≡ verdict (judge n size late bytes)
  unfolding scan
  judge_good z h e t =
      subst (λ w. cond w (Err SlotLimit) (Ok tt) ≡ verdict (judge n size late bytes)) t
      (good n late (read_lines size n bytes) (ended z h true e))

-- what a good verdict says
pub record Accepted (n size : ℕ) (late : Bool) (bytes : List ℕ) : Type 0 where
  pub lines : List Line
  pub read : read_lines size n bytes ≡ Some lines
  pub fit : all_fit n lines ≡ true
  pub on_time : late ≡ false

accepted : (n size : ℕ) (late : Bool) (bytes : List ℕ) (o : Option (List Line)) →
    read_lines size n bytes ≡ o → Ok tt ≡ verdict (judged n late o) → Accepted n size late bytes
accepted n size late bytes None r e = absurd (let z : ◌≡◌ {A = ℕ} 0 1 = cc in omega arith)
accepted n size late bytes (Some ls) r e = go (all_fit n ls) refl late refl e
  where
    go : (f : Bool) → all_fit n ls ≡ f → (t : Bool) → late ≡ t →
        Ok tt ≡ verdict (cond f (cond t (Err SlotLimit) (Ok ls)) (Err NoSuchOutput)) → Accepted n size late bytes
    go false p t q e = absurd (let z : ◌≡◌ {A = ℕ} 0 1 = cc in omega arith)
    go true p true q e = absurd (let z : ◌≡◌ {A = ℕ} 0 1 = cc in omega arith)
    go true p false q e = record { lines = ls; read = r; fit = p; on_time = q }

pub verdict_good : (n size : ℕ) (late : Bool) (bytes : List ℕ) →
    Ok tt ≡ verdict (judge n size late bytes) → Accepted n size late bytes
verdict_good n size late bytes e = accepted n size late bytes (read_lines size n bytes) refl e
