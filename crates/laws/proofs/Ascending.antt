-- Lists that ascend without repeats: any list can be so arranged (`ascending`), and the members settle the result (`ascends-unique`).
use Prim.Native.Nat.{ℕ, ◌+◌, ◌<◌, ◌≤◌}
use mathlib.Core.List.Memᴰ
use mathlib.Core.List.{List, [], ◌∷◌, map, Memᴰ}
use mathlib.Core.Bool.{Bool, true, false, cond}
use mathlib.Core.Path.{◌≡◌, refl, ap₂, ◌∙◌}
use mathlib.Core.Logic.{◌⊎◌, inl, inr, ⊎_elim}
use native.Mathlib.Omega.{arith}
use lib.ListN.{length}
use lib.Dec.{ltb, eqb}
use borrow.Author.Tests.{ltb-true, ltb-false, eqb-true, eqb-false, lt-ltb, le-ltb, eq-eqb, ne_eqb}
use Rattle.laws.specs.Ascending.{insert_once, ascending, Ascends}

-- what insert_once does, case by case
module _ (P : ℕ → List ℕ → List ℕ → Type 0)
    (last : (w : ℕ) → P w [] (w ∷ []))
    (before : (w x : ℕ) (xs : List ℕ) → w < x → P w (x ∷ xs) (w ∷ (x ∷ xs)))
    (there : (w x : ℕ) (xs : List ℕ) → w ≡ x → P w (x ∷ xs) (x ∷ xs))
    (later : (w x : ℕ) (xs : List ℕ) → x < w → P w xs (insert_once w xs) → P w (x ∷ xs) (x ∷ insert_once w xs)) where
  pub insert_elim : (w : ℕ) (xs : List ℕ) → P w xs (insert_once w xs)
  unfolding insert_once
  insert_elim w [] = last w
  insert_elim w (x ∷ xs) = go (ltb w x) refl (eqb w x) refl (insert_elim w xs)
    where
      go : (s : Bool) → ltb w x ≡ s → (t : Bool) → eqb w x ≡ t → P w xs (insert_once w xs)
          → P w (x ∷ xs) (cond s (w ∷ (x ∷ xs)) (cond t (x ∷ xs) (x ∷ insert_once w xs)))
      go true lt t e below = before w x xs (ltb-true w x lt)
      go false ge true e below = there w x xs (eqb-true w x e)
      go false ge false e below =
          let le = ltb-false w x ge in
          let ne : w ≡ x → ⊥ = eqb-false w x e in
          later w x xs (omega arith) below

pub insert_length : (w : ℕ) (xs : List ℕ) → length (insert_once w xs) ≤ 1 + length xs
insert_length = insert_elim (λ w xs ys. length ys ≤ 1 + length xs) (λ w. omega arith) (λ w x xs h. omega arith) (λ w x xs h. omega arith) (λ w x xs h k. omega arith)

pub mem_insert : (w : ℕ) (xs : List ℕ) (v : ℕ) → Memᴰ v (insert_once w xs) → (v ≡ w) ⊎ Memᴰ v xs
mem_insert = insert_elim (λ w xs ys. (v : ℕ) → Memᴰ v ys → (v ≡ w) ⊎ Memᴰ v xs)
    (λ w v m. Memᴰ.cases_cons m) (λ w x xs h v m. Memᴰ.cases_cons m) (λ w x xs h v m. inr m)
    (λ w x xs h k v m. ⊎_elim (λ e. inr (Memᴰ.head e)) (λ n. ⊎_elim (λ e. inl e) (λ i. inr (Memᴰ.tail i)) (k v n)) (Memᴰ.cases_cons m))

pub insert_mem : (w : ℕ) (xs : List ℕ) (v : ℕ) → (v ≡ w) ⊎ Memᴰ v xs → Memᴰ v (insert_once w xs)
insert_mem = insert_elim (λ w xs ys. (v : ℕ) → (v ≡ w) ⊎ Memᴰ v xs → Memᴰ v ys)
    (λ w v. ⊎_elim (λ e. Memᴰ.head e) (λ m. Memᴰ.tail m))
    (λ w x xs h v. ⊎_elim (λ e. Memᴰ.head e) (λ m. Memᴰ.tail m))
    (λ w x xs h v. ⊎_elim (λ e. Memᴰ.head (e ∙ h)) (λ m. m))
    (λ w x xs h k v. ⊎_elim (λ e. Memᴰ.tail (k v (inl e)))
    (λ m. ⊎_elim (λ e. Memᴰ.head e) (λ n. Memᴰ.tail (k v (inr n))) (Memᴰ.cases_cons m)))

-- the head is the least
pub least : (x : ℕ) (xs : List ℕ) → Ascends (x ∷ xs) → (v : ℕ) → Memᴰ v (x ∷ xs) → x ≤ v
unfolding Ascends
least x xs a v m = ⊎_elim (λ (e : v ≡ x). omega arith) (λ n. omega (arith, a.0 v n)) (Memᴰ.cases_cons m)

-- who is above the head is behind it
pub beyond : (y : ℕ) (ys : List ℕ) (v : ℕ) → y < v → Memᴰ v (y ∷ ys) → Memᴰ v ys
beyond y ys v h m = ⊎_elim (λ (e : v ≡ y). absurd (omega arith)) (λ n. n) (Memᴰ.cases_cons m)

insert_ascends : (w : ℕ) (xs : List ℕ) → Ascends xs → Ascends (insert_once w xs)
unfolding Ascends
insert_ascends = insert_elim (λ w xs ys. Ascends xs → Ascends ys)
    (λ w a. (λ y m. absurd (Memᴰ.not-nil m), tt))
    (λ w x xs h a. (λ y m. omega (arith, least x xs a y m), a))
    (λ w x xs h a. a)
    (λ w x xs h k a. (λ y m. ⊎_elim (λ (e : y ≡ w). omega arith) (λ n. a.0 y n) (mem_insert w xs y m), k a.1))

pub ascending-length : (ws : List ℕ) → length (ascending ws) ≤ length ws
unfolding ascending
ascending-length [] = omega arith
ascending-length (w ∷ ws) = omega (arith, insert_length w (ascending ws), ascending-length ws)

pub ascending_mem : (ws : List ℕ) (v : ℕ) → Memᴰ v ws → Memᴰ v (ascending ws)
unfolding ascending
ascending_mem [] v m = m
ascending_mem (w ∷ ws) v m = insert_mem w (ascending ws) v (⊎_elim (λ e. inl e) (λ n. inr (ascending_mem ws v n)) (Memᴰ.cases_cons m))

pub mem_ascending : (ws : List ℕ) (v : ℕ) → Memᴰ v (ascending ws) → Memᴰ v ws
unfolding ascending
mem_ascending [] v m = m
mem_ascending (w ∷ ws) v m = ⊎_elim (λ e. Memᴰ.head e) (λ n. Memᴰ.tail (mem_ascending ws v n)) (mem_insert w (ascending ws) v m)

pub ascends : (ws : List ℕ) → Ascends (ascending ws)
unfolding ascending Ascends
ascends [] = tt
ascends (w ∷ ws) = insert_ascends w (ascending ws) (ascends ws)

-- the members settle the list
pub ascends-unique : (xs ys : List ℕ) → Ascends xs → Ascends ys → ((v : ℕ) → Memᴰ v xs → Memᴰ v ys)
    → ((v : ℕ) → Memᴰ v ys → Memᴰ v xs) → xs ≡ ys
unfolding Ascends
ascends-unique [] [] a b f g = refl
ascends-unique [] (y ∷ ys) a b f g = absurd (Memᴰ.not-nil (g y (Memᴰ.head refl)))
ascends-unique (x ∷ xs) [] a b f g = absurd (Memᴰ.not-nil (f x (Memᴰ.head refl)))
ascends-unique (x ∷ xs) (y ∷ ys) a b f g =
    let le : y ≤ x = least y ys b x (f x (Memᴰ.head refl)) in
    let ge : x ≤ y = least x xs a y (g y (Memᴰ.head refl)) in
    ap₂ {C = List ℕ} (λ h t. h ∷ t) (omega arith) (ascends-unique xs ys a.1 b.1
    (λ v m. beyond y ys v (omega (arith, a.0 v m)) (f v (Memᴰ.tail m)))
    (λ v m. beyond x xs v (omega (arith, b.0 v m)) (g v (Memᴰ.tail m))))

-- an ascending list is no longer than one that has all its members
pub ascends-length : (ys xs : List ℕ) → Ascends xs → Ascends ys → ((v : ℕ) → Memᴰ v xs → Memᴰ v ys) → length xs ≤ length ys
unfolding Ascends
ascends-length ys [] a b f = omega arith
ascends-length [] (x ∷ xs) a b f = absurd (Memᴰ.not-nil (f x (Memᴰ.head refl)))
ascends-length (y ∷ ys) (x ∷ xs) a b f =
    ⊎_elim (λ (e : x ≡ y). omega (arith, ascends-length ys xs a.1 b.1 (λ v m. beyond y ys v (omega (arith, a.0 v m)) (f v (Memᴰ.tail m)))))
    (λ (k : Memᴰ x ys).
    omega (arith, ascends-length ys (x ∷ xs) a b.1 (λ v m. beyond y ys v (omega (arith, b.0 x k, least x xs a v m)) (f v m))))
    (Memᴰ.cases_cons (f x (Memᴰ.head refl)))

-- a map that keeps the order keeps the list
module _ (f : ℕ → ℕ) (mono : (a b : ℕ) → a < b → f a < f b) where
  insert_map : (w : ℕ) (xs : List ℕ) → insert_once (f w) (map f xs) ≡ map f (insert_once w xs)
  unfolding insert_once
  insert_map = insert_elim (λ w xs ys. insert_once (f w) (map f xs) ≡ map f ys)
      (λ w. refl)
      (λ w x xs h. rw (lt-ltb (f w) (f x) (mono w x h)))
      (λ w x xs h. rw (h, le-ltb (f x) (f x) (omega arith), eq-eqb (f x) (f x) refl))
      (λ w x xs h e. rw (le-ltb (f w) (f x) (omega (arith, mono x w h)), ne_eqb (f w) (f x) (λ q. omega (arith, q, mono x w h)), e))

  pub ascending-map : (ws : List ℕ) → ascending (map f ws) ≡ map f (ascending ws)
  unfolding ascending
  ascending-map [] = refl
  ascending-map (w ∷ ws) = rw (ascending-map ws) (insert_map w (ascending ws))
