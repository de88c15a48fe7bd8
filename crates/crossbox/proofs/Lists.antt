-- Laws of lists of cells: who stands in them, who stands ahead, and no cell twice.
use Rattle.std.proofs.Common.{◌≡◌, ℕ, zero, suc, ◌<◌, ◌≤◌, Bool, true, false, not, ◌&&◌, ◌||◌, eqb, List, [], ◌∷◌, ◌++◌, length, refl, ap, inl, inr, arith}
use Rattle.std.proofs.lemmas.Bool.{cases_Bool}
use Rattle.std.proofs.lemmas.Bool.Decides.{nat_tests}
use Rattle.crossbox.specs.declared.Cell.{Cell}
use Rattle.crossbox.specs.Cells.{earlier, same, is_in, ahead, count_earlier}
use Rattle.crossbox.specs.Box.{put_at, for_output, without_all}
use Rattle.crossbox.proofs.Cells.{same_eq, same_refl, same_sym, same_output}

-- one cell has one membership
pub is_in-same : (c d : Cell) (l : List Cell) → same c d ≡ true → is_in c l ≡ is_in d l
is_in-same c d l h = ap (λ z. is_in z l) (same_eq c d h)

pub is_in-append : (c : Cell) (l r : List Cell) → is_in c (l ++ r) ≡ (is_in c l || is_in c r)
unfolding is_in
is_in-append c [] r = refl
is_in-append c (d ∷ l) r = let ih = is_in-append c l r in grind (arith, ih)

pub is_in-put_at : (c : Cell) (k : ℕ) (e : Cell) (l : List Cell) → is_in c (put_at k e l) ≡ (same c e || is_in c l)
unfolding is_in put_at
is_in-put_at c zero e l = refl
is_in-put_at c (suc k) e [] = refl
is_in-put_at c (suc k) e (d ∷ l) = let ih = is_in-put_at c k e l in grind (arith, ih)

pub is_in-for_output : (c : Cell) (o : ℕ) (l : List Cell) → is_in c (for_output o l) ≡ (is_in c l && eqb c.output o)
unfolding is_in for_output
is_in-for_output c o [] = refl
is_in-for_output c o (d ∷ l) =
    let ih = is_in-for_output c o l in
    let k : same c d ≡ true → eqb c.output o ≡ eqb d.output o = λ h. ap (λ z. eqb z o) (same_output c d h) in
    grind (arith, k, ih)

pub is_in-without_all : (c : Cell) (ms l : List Cell) → is_in c (without_all ms l) ≡ (is_in c l && not (is_in c ms))
unfolding is_in without_all
is_in-without_all c ms [] = refl
is_in-without_all c ms (d ∷ l) =
    let ih = is_in-without_all c ms l in
    let k : same c d ≡ true → is_in c ms ≡ is_in d ms = is_in-same c d ms in
    grind (arith, k, ih)

-- who stands in a list is not what does not stand there
pub is_in_other : (c d : Cell) (l : List Cell) → is_in c l ≡ true → is_in d l ≡ false → same c d ≡ false
is_in_other c d l h g = let k = is_in-same c d l in grind (arith, k)

pub ahead-put_at_self : (k : ℕ) (e : Cell) (l : List Cell) → ahead e (put_at k e l) ≤ k
unfolding ahead put_at
ahead-put_at_self zero e l = let s = same_refl e in grind (arith, s)
ahead-put_at_self (suc k) e [] = let s = same_refl e in grind (arith, s)
ahead-put_at_self (suc k) e (d ∷ l) = let ih = ahead-put_at_self k e l in grind (arith, ih)

pub ahead-put_at : (k : ℕ) (c e : Cell) (l : List Cell) → ahead c (put_at k e l) ≤ suc (ahead c l)
unfolding ahead put_at
ahead-put_at zero c e l = grind arith
ahead-put_at (suc k) c e [] = grind arith
ahead-put_at (suc k) c e (d ∷ l) = let ih = ahead-put_at k c e l in grind (arith, ih)

pub ahead-without_all : (c : Cell) (ms l : List Cell) → is_in c ms ≡ false → ahead c (without_all ms l) ≤ ahead c l
unfolding ahead without_all
ahead-without_all c ms [] h = grind arith
ahead-without_all c ms (d ∷ l) h =
    let ih = ahead-without_all c ms l h in
    let k = is_in-same c d ms in
    grind (arith, k, ih)

-- where one that stands ahead goes, fewer stand ahead
pub ahead-without_all-less : (c m : Cell) (ms l : List Cell) → is_in c ms ≡ false → is_in m ms ≡ true → ahead m l < ahead c l → ahead c (without_all ms l) < ahead c l
unfolding ahead without_all
ahead-without_all-less c m ms [] h g a = absurd (grind arith)
ahead-without_all-less c m ms (d ∷ l) h g a =
    let ih = ahead-without_all-less c m ms l h g in
    let le = ahead-without_all c ms l h in
    let k = is_in-same c d ms in
    let j = is_in-same m d ms in
    grind (arith, j, k, ih, le)

pub count_le : (c : Cell) (l : List Cell) → count_earlier c l ≤ length l
unfolding count_earlier
count_le c [] = grind arith
count_le c (d ∷ l) = let ih = count_le c l in grind (arith, ih)

-- where all of a list are earlier, it counts whole
pub count_all : (c : Cell) (l : List Cell) → ((d : Cell) → is_in d l ≡ true → earlier d c ≡ true) → count_earlier c l ≡ length l
unfolding count_earlier is_in
count_all c [] f = refl
count_all c (d ∷ l) f =
    let s = same_refl d in
    let g : earlier d c ≡ true = f d (grind (arith, s)) in
    let ih = count_all c l (λ e h. f e (grind arith)) in
    grind (arith, g, ih)

-- where some of a list are earlier, there is one
pub count-some : (c : Cell) (l : List Cell) → 0 < count_earlier c l → (d : Cell) × (is_in d l ≡ true) × (earlier d c ≡ true)
unfolding count_earlier is_in
count-some c [] h = absurd (grind arith)
count-some c (d ∷ l) h =
    elim (cases_Bool (earlier d c)) [
      | inl e ↦ (d, (let s = same_refl d in grind (arith, s)), e)
      | inr e ↦ (let ih = count-some c l (grind arith) in (ih.0, grind arith, ih.2))
    ]

-- no cell of a list stands there twice
unfoldable pub distinct : List Cell → Bool
distinct [] = true
distinct (c ∷ l) = not (is_in c l) && distinct l

pub distinct-put_at : (k : ℕ) (e : Cell) (l : List Cell) → is_in e l ≡ false → distinct l ≡ true → distinct (put_at k e l) ≡ true
unfolding is_in distinct put_at
distinct-put_at zero e l h g = grind arith
distinct-put_at (suc k) e [] h g = refl
distinct-put_at (suc k) e (d ∷ l) h g =
    let ih = distinct-put_at k e l in
    let i = is_in-put_at d k e l in
    let s = same_sym d e in
    grind (arith, ih, i, s)

pub distinct-without_all : (ms l : List Cell) → distinct l ≡ true → distinct (without_all ms l) ≡ true
unfolding is_in distinct without_all
distinct-without_all ms [] g = refl
distinct-without_all ms (d ∷ l) g =
    let ih = distinct-without_all ms l in
    let i = is_in-without_all d ms l in
    grind (arith, ih, i)

-- a list with no cell for an output has none for it
pub none_in : (o : ℕ) (l : List Cell) → ((c : Cell) → is_in c l ≡ true → c.output ≡ o → ⊥) → length (for_output o l) ≡ 0
unfolding is_in for_output
none_in o [] f = refl
none_in o (d ∷ l) f =
    let s = same_refl d in
    let g : d.output ≡ o → ⊥ = f d (grind (arith, s)) in
    let ih = none_in o l (λ c h. f c (grind arith)) in
    grind (arith, nat_tests, g, ih)
