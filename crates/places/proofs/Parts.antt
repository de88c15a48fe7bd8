-- A row after a part of it was moved by one, and what lies beside it.
use Rattle.std.proofs.Common.{◌≡◌, ℕ, suc, ◌+◌, ◌-◌, ◌<◌, ◌≤◌, List, ◌++◌, length, take, drop, sym, refl, ap, ◌∙◌, add-one, arith, rules}
use Rattle.std.specs.List.{insert, remove}
use Rattle.std.proofs.lemmas.List.{places, same_lists, length-take, length-drop, length-append, take-take, take_at}
use Rattle.places.specs.Rows.{moved_up, moved_down, slid_down, edited}

pub length_up : (x : ℕ) (xs : List ℕ) → length (moved_up x xs) ≡ length xs
length_up x xs = simp length-take (omega arith)

pub length-slid : (n : ℕ) (xs : List ℕ) → n ≤ length xs → length (slid_down n xs) ≡ length xs
length-slid n xs h = simp (length-append, length-drop) (omega arith)

pub length_down : (xs : List ℕ) → 0 < length xs → length (moved_down xs) ≡ length xs
length_down xs h = simp (length-append, length-drop) (omega arith)

-- a change of the part from a to e leaves what ends before a
pub edited_below : (a e j l : ℕ) (f : List ℕ → List ℕ) (xs : List ℕ) → a ≤ length xs → j + l ≤ a → take l (drop j (edited a e f xs)) ≡ take l (drop j xs)
edited_below a e j l f xs h k = same_lists _ _ (search (rules, places)) (λ i d q. grind (arith, places))

-- and what begins behind e
pub edited_above : (a e j : ℕ) (f : List ℕ → List ℕ) (xs : List ℕ) → a ≤ e → e ≤ length xs → length (f (take (e - a) (drop a xs))) ≡ e - a → e ≤ j → drop j (edited a e f xs) ≡ drop j xs
edited_above a e j f xs h l q k = same_lists _ _ (search (rules, places)) (λ i d z. grind (arith, places))

pub length-edited : (a e : ℕ) (f : List ℕ → List ℕ) (xs : List ℕ) → a ≤ e → e ≤ length xs → length (f (take (e - a) (drop a xs))) ≡ e - a → length (edited a e f xs) ≡ length xs
length-edited a e f xs h l q = simp (length-append, length-take, length-drop, q) (omega arith)

-- the row that begins at b with len places, one put behind its first k
pub row_up : (b k len x : ℕ) (xs : List ℕ) → k ≤ len → b + len < length xs → take (len + 1) (drop b (edited (b + k) (b + len + 1) (moved_up x) xs)) ≡ insert (take len (drop b xs)) k x
row_up b k len x xs h l = same_lists _ _ (search (rules, places)) (λ i d z. grind (arith, places))

-- the front of a row whose part behind k is new
row-part : (b k l : ℕ) (xs ys zs : List ℕ) → b + k ≤ length xs → k ≤ l → l ≤ k + length ys → take l (drop b (take (b + k) xs ++ (ys ++ zs))) ≡ take k (drop b xs) ++ take (l - k) ys
row-part b k l xs ys zs h i j = same_lists _ _ (search (rules, places)) (λ i d z. grind (arith, places))

drop-part : (n b k len : ℕ) (xs : List ℕ) → n ≡ 1 → k < len → b + len ≤ length xs → drop n (take (b + len - (b + k)) (drop (b + k) xs)) ≡ drop (k + n) (take len (drop b xs))
drop-part n b k len xs e h l =
    same_lists _ _ (simp (length-drop, length-take) (omega arith)) (λ i d z. grind (arith, places))

down_part : (b k len : ℕ) (xs : List ℕ) → k < len → b + len ≤ length xs → take (len - 1 - k) (moved_down (take (b + len - (b + k)) (drop (b + k) xs))) ≡ drop (suc k) (take len (drop b xs))
down_part b k len xs h l =
    let p : length (take (b + len - (b + k)) (drop (b + k) xs)) ≡ len - k = simp (length-take, length-drop) (omega arith) in
    let q : length (drop 1 (take (b + len - (b + k)) (drop (b + k) xs))) ≡ len - 1 - k = simp length-drop (omega arith) in
    take_at (drop 1 (take (b + len - (b + k)) (drop (b + k) xs))) _ (len - 1 - k) q
    ∙ (drop-part 1 b k len xs refl h l ∙ ap (λ (j : ℕ). drop j (take len (drop b xs))) (add-one k))

-- the row that begins at b with len places, less the one behind its first k
pub row_down : (b k len : ℕ) (xs : List ℕ) → k < len → b + len ≤ length xs → take (len - 1) (drop b (edited (b + k) (b + len) moved_down xs)) ≡ remove (take len (drop b xs)) k
row_down b k len xs h l =
    let p : length (take (b + len - (b + k)) (drop (b + k) xs)) ≡ len - k = simp (length-take, length-drop) (omega arith) in
    let f : length (moved_down (take (b + len - (b + k)) (drop (b + k) xs))) ≡ len - k = length_down _ (omega arith) ∙ p in
    let t : take k (take len (drop b xs)) ≡ take k (drop b xs) = take-take k len (drop b xs) (omega arith) in
    row-part b k (len - 1) xs _ _ (omega arith) (omega arith) (omega arith)
    ∙ ap (λ (ys : List ℕ). take k (drop b xs) ++ ys) (down_part b k len xs h l)
    ∙ ap (λ (ys : List ℕ). ys ++ drop (suc k) (take len (drop b xs))) (sym t)

-- the row that begins n behind b, slid to b within its room
pub row-slid : (b n len room : ℕ) (xs : List ℕ) → n + len ≤ room → b + room ≤ length xs → take len (drop b (edited b (b + room) (slid_down n) xs)) ≡ take len (drop (b + n) xs)
row-slid b n len room xs h l = same_lists _ _ (search (rules, places)) (λ i d z. grind (arith, places))

drop_front : (j a len : ℕ) (xs : List ℕ) → j ≡ 1 → take (len - 1) (drop (a + j) xs) ≡ drop j (take len (drop a xs))
drop_front j a len xs e =
    same_lists _ _ (simp (length-take, length-drop) (omega arith)) (λ i d z. grind (arith, places))

-- the row that begins one behind
pub row_next : (b n len k : ℕ) (xs : List ℕ) → k ≡ 0 → take (len - 1) (drop (b + (n + 1)) xs) ≡ remove (take len (drop (b + n) xs)) k
row_next b n len k xs e =
    let f : b + (n + 1) ≡ b + n + 1 = omega arith in
    ap (λ (a : ℕ). take (len - 1) (drop a xs)) f
    ∙ (drop_front 1 (b + n) len xs refl ∙ ap (λ (j : ℕ). remove (take len (drop (b + n) xs)) j) (sym e))
