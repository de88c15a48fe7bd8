-- The reader reads lines just where the bytes are these lines one after the other.
use Rattle.std.proofs.Common.{◌≡◌, ℕ, zero, suc, Bool, true, false, cond, eqb, ltb, List, [], ◌∷◌, ◌++◌, length, take, drop, Some, None, Option, sym, refl, ap, ◌∙◌, subst, arith}
use Rattle.std.proofs.lemmas.List.{length-append, take-append-drop, length-take-le, take_at, drop_at}
use Rattle.std.proofs.lemmas.Bool.{eqb-true, eqb-false, ltb-false, ne_eqb, le-ltb}
use Rattle.crossbox.specs.declared.Arrival.{Arrival}
use Rattle.crossbox.specs.declared.Arrival.TheVariants.{Nothing, For}
use Rattle.words.specs.Lines.{Line, read_entry, read_lines, before, and_then}
use Rattle.words.specs.Spelling.{Spells, ReadIsSpelled, line_bytes, spell, Formed, AllFormed, WrittenIsRead}
use Rattle.words.specs.Spelling.Spells.{none, nothing, cell}

-- one line with its body is read as that line
entry_spelled : (size o : ℕ) (body bytes : List ℕ) → (o ≡ 255 → ⊥) → length body ≡ size →
    read_entry size (o ∷ (body ++ bytes)) ≡ Some (record { arrival = For o; body = body }, bytes)
unfolding read_entry
entry_spelled size o body bytes ne e =
    let t = ne_eqb o 255 ne in
    let u = le-ltb (length (body ++ bytes)) size (omega (arith, length-append body bytes)) in
    rw (t, u, take_at body bytes size e, drop_at body bytes size e)

pub spelled_read : {size : ℕ} {ls : List Line} {bytes : List ℕ} →
    Spells size ls bytes → read_lines size (length ls) bytes ≡ Some ls
unfolding read_lines read_entry
spelled_read none = refl
spelled_read (nothing {ls = ls} s) =
    ap (λ o. before (record { arrival = Nothing; body = [] }) o) (spelled_read s)
spelled_read {size} (cell {ls = ls} {bytes} o body ne e s) =
    ap (λ entry. and_then entry (read_lines size (length ls))) (entry_spelled size o body bytes ne e)
    ∙ ap (λ rest. before (record { arrival = For o; body = body }) rest) (spelled_read s)

-- a line that was read was spelled
entry_read : (size : ℕ) (bytes : List ℕ) (l : Line) (rest : List ℕ) (ls : List Line) →
    read_entry size bytes ≡ Some (l, rest) → Spells size ls rest → Spells size (l ∷ ls) bytes
unfolding read_entry
entry_read size [] l rest ls e s = absurd (let z : ◌≡◌ {A = ℕ} 0 1 = cc in omega arith)
entry_read size (b ∷ bytes) l rest ls e s = go (eqb b 255) refl e
  where
    cut : (t : Bool) → ltb (length bytes) size ≡ t → (b ≡ 255 → ⊥) →
        cond {A = Option (Line × List ℕ)} t None (Some (record { arrival = For b; body = take size bytes }, drop size bytes)) ≡ Some (l, rest) →
        Spells size (l ∷ ls) (b ∷ bytes)
    cut true p ne e = absurd (let z : ◌≡◌ {A = ℕ} 0 1 = cc in omega arith)
    cut false p ne e =
        let pair : ◌≡◌ {A = Line × List ℕ} (record { arrival = For b; body = take size bytes }, drop size bytes) (l, rest) = cc in
        let el = ap (λ (x : Line × List ℕ). x.0) pair in
        let er = ap (λ (x : Line × List ℕ). x.1) pair in
        let whole = take-append-drop size bytes in
        let long = length-take-le size bytes (ltb-false (length bytes) size p) in
        subst (λ (x : Line). Spells size (x ∷ ls) (b ∷ bytes)) el
        (subst (λ (xs : List ℕ). Spells size (record { arrival = For b; body = take size bytes } ∷ ls) (b ∷ xs)) whole
        (cell b (take size bytes) ne long (subst (λ (xs : List ℕ). Spells size ls xs) (sym er) s)))

    go : (t : Bool) → eqb b 255 ≡ t →
        cond {A = Option (Line × List ℕ)} t (Some (record { arrival = Nothing; body = [] }, bytes))
        (cond {A = Option (Line × List ℕ)} (ltb (length bytes) size) None (Some (record { arrival = For b; body = take size bytes }, drop size bytes)))
        ≡ Some (l, rest) → Spells size (l ∷ ls) (b ∷ bytes)
    go true p e =
        let pair : ◌≡◌ {A = Line × List ℕ} (record { arrival = Nothing; body = [] }, bytes) (l, rest) = cc in
        let el = ap (λ (x : Line × List ℕ). x.0) pair in
        let er = ap (λ (x : Line × List ℕ). x.1) pair in
        subst (λ (x : Line). Spells size (x ∷ ls) (b ∷ bytes)) el
        (subst (λ (x : ℕ). Spells size (record { arrival = Nothing; body = [] } ∷ ls) (x ∷ bytes)) (sym (eqb-true b 255 p))
        (nothing (subst (λ (xs : List ℕ). Spells size ls xs) (sym er) s)))
    go false p e = cut (ltb (length bytes) size) refl (eqb-false b 255 p) e

-- an entry that was read has a body of the size that was asked for, and its output is not 255
pub entry_formed : (size : ℕ) (bytes : List ℕ) (l : Line) (rest : List ℕ) →
    Some (l, rest) ≡ read_entry size bytes → Formed size l.arrival l.body
unfolding read_entry
entry_formed size [] l rest e = absurd (let z : ◌≡◌ {A = ℕ} 0 1 = cc in omega arith)
entry_formed size (b ∷ bytes) l rest e = go (eqb b 255) refl e
  where
    line : (x : Line) (xs : List ℕ) → ◌≡◌ {A = Option (Line × List ℕ)} (Some (l, rest)) (Some (x, xs)) →
        Formed size x.arrival x.body → Formed size l.arrival l.body
    line x xs e f =
        let pair : ◌≡◌ {A = Line × List ℕ} (x, xs) (l, rest) = cc in
        subst (λ (y : Line). Formed size y.arrival y.body) (ap (λ (y : Line × List ℕ). y.0) pair) f

    cut : (t : Bool) → ltb (length bytes) size ≡ t → (b ≡ 255 → ⊥) →
        Some (l, rest) ≡ cond {A = Option (Line × List ℕ)} t None (Some (record { arrival = For b; body = take size bytes }, drop size bytes)) →
        Formed size l.arrival l.body
    cut true p ne e = absurd (let z : ◌≡◌ {A = ℕ} 0 1 = cc in omega arith)
    cut false p ne e =
        line (record { arrival = For b; body = take size bytes }) (drop size bytes) e
        (ne, length-take-le size bytes (ltb-false (length bytes) size p))

    go : (t : Bool) → eqb b 255 ≡ t →
        Some (l, rest) ≡ cond {A = Option (Line × List ℕ)} t (Some (record { arrival = Nothing; body = [] }, bytes))
        (cond {A = Option (Line × List ℕ)} (ltb (length bytes) size) None (Some (record { arrival = For b; body = take size bytes }, drop size bytes))) →
        Formed size l.arrival l.body
    go true p e = line (record { arrival = Nothing; body = [] }) bytes e refl
    go false p e = cut (ltb (length bytes) size) refl (eqb-false b 255 p) e

-- so the body of a cell is as long as was asked for
pub entry_body : (size : ℕ) (bytes : List ℕ) (l : Line) (rest : List ℕ) (o : ℕ) →
    Some (l, rest) ≡ read_entry size bytes → l.arrival ≡ For o → length l.body ≡ size
entry_body size bytes l rest o e a = (subst (λ (x : Arrival). Formed size x l.body) a (entry_formed size bytes l rest e)).1

module _ (size k : ℕ)
    (more : (bytes : List ℕ) (ls : List Line) → read_lines size k bytes ≡ Some ls → Spells size ls bytes × (length ls ≡ k)) where
  read_rest : (bytes : List ℕ) (ls : List Line) (l : Line) (rest : List ℕ) (o : Option (List Line)) →
      read_entry size bytes ≡ Some (l, rest) → read_lines size k rest ≡ o → before l o ≡ Some ls →
      Spells size ls bytes × (length ls ≡ suc k)
  read_rest bytes ls l rest None e r p = absurd (let z : ◌≡◌ {A = ℕ} 0 1 = cc in omega arith)
  read_rest bytes ls l rest (Some tail) e r p =
      let q : l ∷ tail ≡ ls = cc in
      let h = more rest tail r in
      subst (λ (xs : List Line). Spells size xs bytes × (length xs ≡ suc k)) q
      (entry_read size bytes l rest tail e h.0, ap suc h.1)

  read_first : (bytes : List ℕ) (ls : List Line) (o : Option (Line × List ℕ)) →
      read_entry size bytes ≡ o → and_then o (read_lines size k) ≡ Some ls → Spells size ls bytes × (length ls ≡ suc k)
  read_first bytes ls None e p = absurd (let z : ◌≡◌ {A = ℕ} 0 1 = cc in omega arith)
  read_first bytes ls (Some entry) e p = read_rest bytes ls entry.0 entry.1 (read_lines size k entry.1) e refl p

pub read_spelled : (size k : ℕ) (bytes : List ℕ) (ls : List Line) →
    read_lines size k bytes ≡ Some ls → Spells size ls bytes × (length ls ≡ k)
unfolding read_lines
read_spelled size zero [] ls e =
    let q : [] ≡ ls = cc in
    subst (λ (xs : List Line). Spells size xs [] × (length xs ≡ 0)) q (none, refl)
read_spelled size zero (b ∷ bytes) ls e = absurd (let z : ◌≡◌ {A = ℕ} 0 1 = cc in omega arith)
read_spelled size (suc k) bytes ls e =
    read_first size k (read_spelled size k) bytes ls (read_entry size bytes) refl e

pub read_is_spelled : ReadIsSpelled
read_is_spelled size k ls bytes =
    (read_spelled size k bytes ls, λ s e. subst (λ (n : ℕ). read_lines size n bytes ≡ Some ls) e (spelled_read s))

spell_line : (size : ℕ) (a : Arrival) (body : List ℕ) (ls : List Line) (bytes : List ℕ) →
    Formed size a body → Spells size ls bytes →
    Spells size (record { arrival = a; body = body } ∷ ls) (line_bytes a body ++ bytes)
spell_line size Nothing body ls bytes f s =
    subst (λ (xs : List ℕ). Spells size (record { arrival = Nothing; body = xs } ∷ ls) (255 ∷ bytes)) (sym f) (nothing s)
spell_line size (For o) body ls bytes f s = cell o body f.0 f.1 s

pub spell-spelled : (size : ℕ) (ls : List Line) → AllFormed size ls → Spells size ls (spell ls)
spell-spelled size [] f = none
spell-spelled size (l ∷ ls) f =
    spell_line size l.arrival l.body ls (spell ls) f.0 (spell-spelled size ls f.1)

pub written_is_read : WrittenIsRead
written_is_read size ls f = spelled_read (spell-spelled size ls f)
