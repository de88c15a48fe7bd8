-- Laws of stores: what slips into one, and that one that rises has its earliest cell first.
use Rattle.std.proofs.Common.{◌≡◌, suc, ◌<◌, ◌≤◌, true, false, cond, not, ◌&&◌, ◌||◌, List, [], ◌∷◌, length, Some, refl, ap, ◌∙◌, arith}
use Rattle.crossbox.specs.declared.Cell.{Cell}
use Rattle.crossbox.specs.Cells.{earlier, same, is_in, without, count_earlier, earliest, sooner}
use Rattle.crossbox.specs.Ideal.{first, rest}
use Rattle.crossbox.specs.Box.{slip, slip_all, less}
use Rattle.crossbox.specs.Shape.{leads, rises, EarliestIsFirst, DepartDropsFirst}
use Rattle.crossbox.proofs.Cells.{same_eq, same_refl, earlier_self, earlier_trans, earlier_other}
use Rattle.crossbox.proofs.Lists.{is_in-same}

pub is_in-slip : (c e : Cell) (l : List Cell) → is_in c (slip e l) ≡ (same c e || is_in c l)
unfolding is_in slip
is_in-slip c e [] = refl
is_in-slip c e (d ∷ l) = let ih = is_in-slip c e l in grind (arith, ih)

pub is_in-slip_all : (c : Cell) (es l : List Cell) → is_in c (slip_all es l) ≡ (is_in c es || is_in c l)
unfolding is_in slip_all
is_in-slip_all c [] l = refl
is_in-slip_all c (e ∷ es) l =
    let ih = is_in-slip_all c es l in
    let i = is_in-slip c e (slip_all es l) in
    grind (arith, ih, i)

pub length-slip : (e : Cell) (l : List Cell) → length (slip e l) ≡ suc (length l)
unfolding slip
length-slip e [] = refl
length-slip e (d ∷ l) = let ih = length-slip e l in grind (arith, ih)

pub count-slip : (c e : Cell) (l : List Cell) → count_earlier c (slip e l) ≡ count_earlier c (e ∷ l)
unfolding slip count_earlier
count-slip c e [] = refl
count-slip c e (d ∷ l) = let ih = count-slip c e l in grind (arith, ih)

pub count-slip_all : (c : Cell) (es l : List Cell) → count_earlier c l ≤ count_earlier c (slip_all es l)
unfolding slip_all count_earlier
count-slip_all c [] l = grind arith
count-slip_all c (e ∷ es) l =
    let ih = count-slip_all c es l in
    let i = count-slip c e (slip_all es l) in
    grind (arith, ih, i)

-- where an earlier one slips in, more are earlier
pub count-slip_all-more : (c m : Cell) (es l : List Cell) → is_in m es ≡ true → earlier m c ≡ true → count_earlier c l < count_earlier c (slip_all es l)
unfolding is_in slip_all count_earlier
count-slip_all-more c m [] l h g = absurd (grind arith)
count-slip_all-more c m (e ∷ es) l h g =
    let ih = count-slip_all-more c m es l in
    let le = count-slip_all c es l in
    let i = count-slip c e (slip_all es l) in
    let k : same m e ≡ true → earlier m c ≡ earlier e c = λ s. ap (λ z. earlier z c) (same_eq m e s) in
    grind (arith, ih, le, i, k)

pub leads_in : (c d : Cell) (l : List Cell) → leads c l ≡ true → is_in d l ≡ true → earlier c d ≡ true
unfolding leads is_in
leads_in c d [] h g = absurd (grind arith)
leads_in c d (e ∷ l) h g =
    let ih = leads_in c d l in
    let k : same d e ≡ true → earlier c d ≡ earlier c e = λ s. ap (λ z. earlier c z) (same_eq d e s) in
    grind (arith, ih, k)

pub leads_trans : (c d : Cell) (l : List Cell) → earlier c d ≡ true → leads d l ≡ true → leads c l ≡ true
unfolding leads
leads_trans c d [] h g = refl
leads_trans c d (e ∷ l) h g =
    let ih = leads_trans c d l h in
    let t = earlier_trans c d e h in
    grind (arith, ih, t)

pub leads-slip : (c e : Cell) (l : List Cell) → earlier c e ≡ true → leads c l ≡ true → leads c (slip e l) ≡ true
unfolding leads slip
leads-slip c e [] h g = grind arith
leads-slip c e (d ∷ l) h g = let ih = leads-slip c e l h in grind (arith, ih)

-- who leads a list does not stand in it
pub leads-not_in : (c : Cell) (l : List Cell) → leads c l ≡ true → is_in c l ≡ false
leads-not_in c l h =
    let k = leads_in c c l h in
    let s = earlier_self c in
    grind (arith, k, s)

-- a store of cells for one output rises with one more of them
pub rises-slip : (e : Cell) (l : List Cell) → ((d : Cell) → is_in d l ≡ true → e.output ≡ d.output) → is_in e l ≡ false → rises l ≡ true → rises (slip e l) ≡ true
unfolding is_in leads rises slip
rises-slip e [] f h g = refl
rises-slip e (d ∷ l) f h g =
    let s = same_refl d in
    let ih = rises-slip e l (λ c m. f c (grind arith)) in
    let p : e.output ≡ d.output = f d (grind (arith, s)) in
    let t = leads_trans e d l in
    let o = earlier_other e d p in
    let m = leads-slip d e l in
    grind (arith, ih, t, o, m)

without-none : (c : Cell) (l : List Cell) → is_in c l ≡ false → without c l ≡ l
unfolding is_in without
without-none c [] h = refl
without-none c (d ∷ l) h = let ih = without-none c l in grind (arith, ih)

pub earliest-first : EarliestIsFirst
unfolding earliest rises leads
earliest-first [] h = refl
earliest-first (c ∷ []) h = refl
earliest-first (c ∷ d ∷ l) h =
    let ih : earliest (d ∷ l) ≡ first (d ∷ l) = earliest-first (d ∷ l) (grind arith) in
    let e : earlier c d ≡ true = grind arith in
    ap (λ z. Some (sooner c z)) ih ∙ ap (λ z. Some (cond z c d)) e

pub less-first : (c : Cell) (l : List Cell) → rises (c ∷ l) ≡ true → without c (c ∷ l) ≡ l
unfolding without rises
less-first c l h =
    let s = same_refl c in
    let w = without-none c l (leads-not_in c l (grind arith)) in
    grind (arith, s, w)

pub depart_drops : DepartDropsFirst
depart_drops [] h = ap (λ z. less z []) (earliest-first [] h)
depart_drops (c ∷ l) h = ap (λ z. less z (c ∷ l)) (earliest-first (c ∷ l) h) ∙ less-first c l h

-- behind its first cell, a list that rises has all its cells but that one
pub is_in-behind : (c h : Cell) (l : List Cell) → rises (h ∷ l) ≡ true → is_in c l ≡ (is_in c (h ∷ l) && not (same c h))
unfolding is_in rises
is_in-behind c h l g =
    let k = leads-not_in h l in
    let s = is_in-same c h l in
    grind (arith, k, s)

pub count-rest : (c : Cell) (l : List Cell) → count_earlier c l ≤ suc (count_earlier c (rest l))
unfolding count_earlier
count-rest c [] = grind arith
count-rest c (d ∷ l) = grind arith

pub rises-rest : (l : List Cell) → rises l ≡ true → rises (rest l) ≡ true
unfolding rises
rises-rest [] h = refl
rises-rest (c ∷ l) h = grind arith
