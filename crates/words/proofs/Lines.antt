-- Lines that are known to be read, read once more one by one: what each entry is, and that none is cut.
use Rattle.std.proofs.Common.{◌≡◌, ℕ, zero, suc, ◌+◌, ◌-◌, ◌<◌, true, List, [], ◌∷◌, length, get_or, drop, Some, None, Option, sym, refl, ap, ◌∙◌, add-one, arith}
use Rattle.std.proofs.lemmas.Bool.{and_parts}
use Rattle.words.specs.Lines.{Line, read_entry, read_lines, before, and_then, fits, all_fit}
use Rattle.words.specs.Spelling.{Spells, Formed, AllFormed}
use Rattle.words.specs.Spelling.Spells.{none, nothing, cell}
use Rattle.words.proofs.Spelled.{read_spelled}

-- the first of several lines that are read, and those behind it
pub record Next (size left : ℕ) (bytes : List ℕ) (ls : List Line) : Type 0 where
  pub line : Line
  pub rest : List ℕ
  pub tail : List Line
  pub entry : read_entry size bytes ≡ Some (line, rest)
  pub lines : ls ≡ line ∷ tail
  pub more : read_lines size (left - 1) rest ≡ Some tail

module _ (size k : ℕ) (bytes : List ℕ) (ls : List Line) where
  next_tail : (l : Line) (rest : List ℕ) (o : Option (List Line)) → read_entry size bytes ≡ Some (l, rest) →
      read_lines size (suc k - 1) rest ≡ o → before l o ≡ Some ls → Next size (suc k) bytes ls
  next_tail l rest None e r p = absurd (let z : ◌≡◌ {A = ℕ} 0 1 = cc in omega arith)
  next_tail l rest (Some tail) e r p =
      record { line = l; rest = rest; tail = tail; entry = e; lines = (let q : ls ≡ l ∷ tail = cc in q); more = r }

  next_entry : (o : Option (Line × List ℕ)) → read_entry size bytes ≡ o →
      and_then o (read_lines size k) ≡ Some ls → Next size (suc k) bytes ls
  next_entry None e p = absurd (let z : ◌≡◌ {A = ℕ} 0 1 = cc in omega arith)
  next_entry (Some entry) e p =
      let less : suc k - 1 ≡ k = omega arith in
      next_tail entry.0 entry.1 (read_lines size k entry.1) e (ap (λ (j : ℕ). read_lines size j entry.1) less) p

pub lines_next : (size left : ℕ) (bytes : List ℕ) (ls : List Line) →
    read_lines size left bytes ≡ Some ls → 0 < left → Next size left bytes ls
unfolding read_lines
lines_next size zero bytes ls e h = absurd (omega arith)
lines_next size (suc k) bytes ls e h = next_entry size k bytes ls (read_entry size bytes) refl e

drop_parts : (i : ℕ) (ls : List Line) (d l : Line) (tail : List Line) →
    drop i ls ≡ l ∷ tail → (get_or ls i d ≡ l) × (drop (suc i) ls ≡ tail)
drop_parts zero [] d l tail e = absurd (let z : ◌≡◌ {A = ℕ} 0 1 = cc in omega arith)
drop_parts zero (x ∷ ls) d l tail e = (let p : x ≡ l = cc in p, let q : ls ≡ tail = cc in q)
drop_parts (suc i) [] d l tail e = absurd (let z : ◌≡◌ {A = ℕ} 0 1 = cc in omega arith)
drop_parts (suc i) (x ∷ ls) d l tail e = drop_parts i ls d l tail e

-- at the i-th of n lines: no entry is cut, it is the i-th line, and the others stand behind it
module _ (size n i : ℕ) (bytes : List ℕ) (ls : List Line) (inv : read_lines size (n - i) bytes ≡ Some (drop i ls)) (h : i < n) where
  pub line_there : None ≡ read_entry size bytes → ⊥
  line_there e =
      let next = lines_next size (n - i) bytes (drop i ls) inv (omega arith) in
      let p = e ∙ next.entry in
      let z : ◌≡◌ {A = ℕ} 0 1 = cc in
      omega arith

  pub line_at : (l : Line) (rest : List ℕ) (d : Line) → Some (l, rest) ≡ read_entry size bytes →
      (l ≡ get_or ls i d) × (read_lines size (n - (i + 1)) rest ≡ Some (drop (i + 1) ls))
  line_at l rest d e =
      let next = lines_next size (n - i) bytes (drop i ls) inv (omega arith) in
      let p : ◌≡◌ {A = Option (Line × List ℕ)} (Some (l, rest)) (Some (next.line, next.rest)) = e ∙ next.entry in
      let pair : ◌≡◌ {A = Line × List ℕ} (l, rest) (next.line, next.rest) = cc in
      let el = ap (λ (x : Line × List ℕ). x.0) pair in
      let er = ap (λ (x : Line × List ℕ). x.1) pair in
      let parts = drop_parts i ls d next.line next.tail next.lines in
      let less : n - (i + 1) ≡ n - i - 1 = omega arith in (
        el ∙ sym parts.0,
        ap (λ (xs : List ℕ). read_lines size (n - (i + 1)) xs) er
            ∙ ap (λ (j : ℕ). read_lines size j next.rest) less
            ∙ next.more
            ∙ ap (λ (xs : List Line). Some xs) (sym parts.1 ∙ ap (λ (j : ℕ). drop j ls) (sym (add-one i))),
      )

-- as many lines are read as were asked for
pub lines-length : (size k : ℕ) (bytes : List ℕ) (ls : List Line) → read_lines size k bytes ≡ Some ls → length ls ≡ k
lines-length size k bytes ls e = (read_spelled size k bytes ls e).1

spelled_formed : {size : ℕ} {ls : List Line} {bytes : List ℕ} → Spells size ls bytes → AllFormed size ls
spelled_formed none = tt
spelled_formed (nothing s) = (refl, spelled_formed s)
spelled_formed (cell o body ne e s) = ((ne, e), spelled_formed s)

-- lines that are read have bodies of the size that was asked for, and no output is 255
pub lines_formed : (size k : ℕ) (bytes : List ℕ) (ls : List Line) → read_lines size k bytes ≡ Some ls → AllFormed size ls
lines_formed size k bytes ls e = spelled_formed (read_spelled size k bytes ls e).0

-- the i-th of lines that are formed, and that fit
pub formed_at : (size : ℕ) (ls : List Line) (i : ℕ) (d : Line) → AllFormed size ls → i < length ls →
    Formed size (get_or ls i d).arrival (get_or ls i d).body
formed_at size [] i d f h = absurd (omega arith)
formed_at size (l ∷ ls) zero d f h = f.0
formed_at size (l ∷ ls) (suc i) d f h = formed_at size ls i d f.1 (omega arith)

pub fits_at : (n : ℕ) (ls : List Line) (i : ℕ) (d : Line) → all_fit n ls ≡ true → i < length ls →
    fits n (get_or ls i d).arrival ≡ true
unfolding all_fit
fits_at n [] i d f h = absurd (omega arith)
fits_at n (l ∷ ls) zero d f h = (and_parts (fits n l.arrival) (all_fit n ls) f).0
fits_at n (l ∷ ls) (suc i) d f h = fits_at n ls i d (and_parts (fits n l.arrival) (all_fit n ls) f).1 (omega arith)
