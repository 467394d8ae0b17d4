-- Where the procedures of a plan stand among its forms. A block has no `(proc`, so the places after those forms are the first places of the procedures' blocks
-- (`places_starts`), one for each procedure (`places_count`), and the numbers of those forms too (`places-numbers`). The threads are those of the plan (`threads_of`).
use Prim.Native.Nat.{ℕ, zero, suc, ◌+◌, ◌-◌, ◌<◌, ◌≤◌}
use native.Mathlib.Numerals.{add-one}
use native.Mathlib.Omega.{arith}
use mathlib.Core.Path.{◌≡◌, refl, sym, ap, ◌∙◌}
use mathlib.Core.List.{List, [], ◌∷◌, map}
use mathlib.Core.Bool.{Bool, true, false, ◌&&◌, cond}
use lib.Dec.{eqb, eqb-suc-zero}
use lib.ListN.{length, take, drop, get_or, length-map, length-drop, length-take}
use lib.Seq.{drop-drop}
use Rattle.limits.specs.Limits.{max_procs}
use Rattle.laws.proofs.Places.{front_at}
use Rattle.text.specs.declared.Form.{Form}
use Rattle.text.specs.declared.Form.TheVariants.{Proc, Close, Two}
use Rattle.text.specs.Forms.{number_in, kind_in, is_proc}
use Rattle.semantics.specs.Plan.{Block, done, skip, call, hold, loop, either, end, LockPlan, body_in}
use Rattle.plan.specs.Grammar.{block_forms, proc_forms, thread_forms, forms}
use Rattle.plan.specs.Table.{form_at, table_forms}
use Rattle.plan.specs.Rules.{proc_form_from}
use Rattle.plan.specs.Settled.{PlanTable, table_plan}
use Rattle.plan.specs.Starts.{StandsAt, Starts}
use Rattle.plan.proofs.ClaimForms.{by_claim}
use Rattle.procs.specs.Passes.{cons_if, places_from, threads_from}

-- ---- lists behind a place

pub map-drop : {A B : Type 0} (f : A → B) (k : ℕ) (xs : List A) → map f (drop k xs) ≡ drop k (map f xs)
map-drop f zero xs = refl
map-drop f (suc k) [] = refl
map-drop f (suc k) (x ∷ xs) = map-drop f k xs

module _ {A : Type 0} (l : List A) (k : ℕ) (x : A) (xs : List A) (e : drop k l ≡ x ∷ xs) where
  drop-next : drop (suc k) l ≡ xs
  drop-next = ap (λ n. drop n l) (sym (add-one k)) ∙ sym (drop-drop 1 k l) ∙ ap (drop 1) e

  some_left : k < length l
  some_left = omega (arith, length-drop k l, ap length e)

-- ---- a block

-- how many forms a block has
unfoldable pub form_count : Block → ℕ
form_count done = 0
form_count (skip r) = suc (form_count r)
form_count (call p r) = suc (form_count r)
form_count (hold l b r) = suc (form_count b + suc (form_count r))
form_count (loop b r) = suc (form_count b + suc (form_count r))
form_count (either a b r) = suc (suc (form_count a + suc (suc (form_count b + suc (suc (form_count r))))))
form_count (end l r) = form_count r

-- a block's forms and one more, skipped
skipped : (n m : ℕ) (xs ys : List Form) → drop n xs ≡ ys → drop (n + m) xs ≡ drop m ys
skipped n m xs ys e = sym (drop-drop m n xs) ∙ ap (drop m) e

pub drop_block : (b : Block) (fs : List Form) → drop (form_count b) (block_forms b fs) ≡ fs
unfolding form_count block_forms
drop_block done fs = refl
drop_block (skip r) fs = drop_block r fs
drop_block (call p r) fs = drop_block r fs
drop_block (hold l b r) fs = skipped (form_count b) (suc (form_count r)) _ _ (drop_block b (Close ∷ block_forms r fs)) ∙ drop_block r fs
drop_block (loop b r) fs = skipped (form_count b) (suc (form_count r)) _ _ (drop_block b (Close ∷ block_forms r fs)) ∙ drop_block r fs
drop_block (either a b r) fs =
    skipped (form_count a) (suc (suc (form_count b + suc (suc (form_count r))))) _ _ (drop_block a (Close ∷ Two ∷ block_forms b (Close ∷ Close ∷ block_forms r fs)))
    ∙ skipped (form_count b) (suc (suc (form_count r))) _ _ (drop_block b (Close ∷ Close ∷ block_forms r fs))
    ∙ drop_block r fs
drop_block (end l r) fs = drop_block r fs

pub places-block : (b : Block) (k : ℕ) (fs : List Form) → places_from k (block_forms b fs) ≡ places_from (k + form_count b) fs
unfolding form_count block_forms places_from kind_in
places-block done k fs = ap (λ n. places_from n fs) (omega arith)
places-block (skip r) k fs = places-block r (suc k) fs ∙ ap (λ n. places_from n fs) (omega arith)
places-block (call p r) k fs = places-block r (suc k) fs ∙ ap (λ n. places_from n fs) (omega arith)
places-block (hold a b r) k fs =
    let gs = block_forms b (Close ∷ block_forms r fs) in
    let n = k + suc (form_count b + suc (form_count r)) in
    let e : places_from (suc k) gs ≡ places_from n fs =
    places-block b (suc k) (Close ∷ block_forms r fs) ∙ places-block r (suc (suc k + form_count b)) fs ∙ ap (λ n. places_from n fs) (omega arith) in
    by_claim (λ f. places_from k (f ∷ gs) ≡ places_from n fs) a e e
places-block (loop b r) k fs =
    places-block b (suc k) (Close ∷ block_forms r fs) ∙ places-block r (suc (suc k + form_count b)) fs ∙ ap (λ n. places_from n fs) (omega arith)
places-block (either a b r) k fs =
    places-block a (suc (suc k)) (Close ∷ Two ∷ block_forms b (Close ∷ Close ∷ block_forms r fs))
    ∙ places-block b (suc (suc (suc (suc k) + form_count a))) (Close ∷ Close ∷ block_forms r fs)
    ∙ places-block r (suc (suc (suc (suc (suc (suc k) + form_count a)) + form_count b))) fs
    ∙ ap (λ n. places_from n fs) (omega arith)
places-block (end l r) k fs = places-block r k fs

-- ---- the procedures

-- a block at a place of a list of forms: its closing line, the procedures after it and fs follow
pub record PlacedBlock (whole fs : List Form) (place : ℕ) (b : Block) : Type 0 where
  pub within : place ≤ length whole
  pub rest : List Block
  pub written : drop place whole ≡ block_forms b (Close ∷ proc_forms rest fs)

pub place_at : (fs whole : List Form) (ps : List Block) (k : ℕ) → drop k whole ≡ proc_forms ps fs → (p : ℕ) → p < length ps
    → PlacedBlock whole fs (get_or (places_from k (proc_forms ps fs)) p 0) (body_in ps p)
unfolding places_from proc_forms kind_in body_in
place_at fs whole [] k e p h = absurd (omega arith)
place_at fs whole (b ∷ bs) k e zero h =
    record { within = omega (arith, some_left whole k Proc _ e); rest = bs; written = drop-next whole k Proc _ e }
place_at fs whole (b ∷ bs) k e (suc p) h =
    let behind : drop (suc k + form_count b) whole ≡ Close ∷ proc_forms bs fs =
    sym (drop-drop (form_count b) (suc k) whole) ∙ ap (drop (form_count b)) (drop-next whole k Proc _ e) ∙ drop_block b (Close ∷ proc_forms bs fs) in
    rw (places-block b (suc k) (Close ∷ proc_forms bs fs))
    (place_at fs whole bs (suc (suc k + form_count b)) (drop-next whole (suc k + form_count b) Close _ behind) p (omega arith))

places-threads : (k : ℕ) (ns : List ℕ) → places_from k (thread_forms ns (Close ∷ [])) ≡ []
unfolding places_from thread_forms kind_in
places-threads k [] = refl
places-threads k (n ∷ ns) = places-threads (suc k) ns

pub places_count : (ns : List ℕ) (k : ℕ) (ps : List Block) → length (places_from k (proc_forms ps (thread_forms ns (Close ∷ [])))) ≡ length ps
unfolding places_from proc_forms kind_in
places_count ns k [] = ap length (places-threads k ns)
places_count ns k (b ∷ bs) =
    ap (λ (l : List ℕ). suc (length l)) (places-block b (suc k) (Close ∷ proc_forms bs (thread_forms ns (Close ∷ []))))
    ∙ ap suc (places_count ns (suc (suc k + form_count b)) bs)

-- the place after a `(proc` is its number among the forms
pub places-numbers : (fs : List Form) (k p : ℕ) → get_or (places_from k fs) p 0 ≡ proc_form_from (suc k) p fs
unfolding places_from proc_form_from
places-numbers [] k p = refl
places-numbers (f ∷ fs) k p = go (is_proc f) p (places-numbers fs (suc k))
  where
    go : (b : Bool) (p : ℕ) → ((q : ℕ) → get_or (places_from (suc k) fs) q 0 ≡ proc_form_from (suc (suc k)) q fs)
        → get_or (cons_if b (suc k) (places_from (suc k) fs)) p 0 ≡ cond (b && eqb p 0) (suc k) (proc_form_from (suc (suc k)) (cond b (p - 1) p) fs)
    go true zero ih = refl
    go true (suc p) ih = let e : suc p - 1 ≡ p = omega arith in rw (eqb-suc-zero p, e) (ih p)
    go false p ih = ih p

-- ---- the threads

threads-block : (b : Block) (fs : List Form) → threads_from (block_forms b fs) ≡ threads_from fs
unfolding block_forms threads_from kind_in
threads-block done fs = refl
threads-block (skip r) fs = threads-block r fs
threads-block (call p r) fs = threads-block r fs
threads-block (hold a b r) fs =
    let e = threads-block b (Close ∷ block_forms r fs) ∙ threads-block r fs in
    by_claim (λ f. threads_from (f ∷ block_forms b (Close ∷ block_forms r fs)) ≡ threads_from fs) a e e
threads-block (loop b r) fs = threads-block b (Close ∷ block_forms r fs) ∙ threads-block r fs
threads-block (either a b r) fs =
    threads-block a (Close ∷ Two ∷ block_forms b (Close ∷ Close ∷ block_forms r fs)) ∙ threads-block b (Close ∷ Close ∷ block_forms r fs) ∙ threads-block r fs
threads-block (end l r) fs = threads-block r fs

threads-procs : (ps : List Block) (fs : List Form) → threads_from (proc_forms ps fs) ≡ threads_from fs
unfolding proc_forms threads_from kind_in
threads-procs [] fs = refl
threads-procs (b ∷ bs) fs = threads-block b (Close ∷ proc_forms bs fs) ∙ threads-procs bs fs

threads-listed : (ns : List ℕ) → threads_from (thread_forms ns (Close ∷ [])) ≡ ns
unfolding thread_forms threads_from kind_in number_in
threads-listed [] = refl
threads-listed (n ∷ ns) = ap (λ l. n ∷ l) (threads-listed ns)

pub threads_of : (plan : LockPlan) → threads_from (forms plan) ≡ plan.threads
unfolding forms threads_from kind_in
threads_of plan = threads-procs plan.procs (thread_forms plan.threads (Close ∷ [])) ∙ threads-listed plan.threads

-- ---- in a table

-- the forms behind the procedures
abbrev pub thread_part : LockPlan → List Form
thread_part plan = thread_forms plan.threads (Close ∷ [])

module _ (plan : LockPlan) (fs : List Form) (e : fs ≡ forms plan) where
  pub count_placed : length (places_from 0 fs) ≡ length plan.procs
  unfolding forms places_from kind_in
  count_placed = rw e (places_count plan.threads 1 plan.procs)

  pub proc_placed : (p : ℕ) → p < length plan.procs → PlacedBlock fs (thread_part plan) (get_or (places_from 0 fs) p 0) (body_in plan.procs p)
  unfolding forms places_from kind_in
  proc_placed p h = rw e (place_at (thread_part plan) (forms plan) plan.procs 1 refl p h)

module _ (ws : List ℕ) (t : PlanTable ws) where
  pub table-places : length (places_from 0 (table_forms ws)) ≡ length (table_plan ws).procs
  table-places = count_placed (table_plan ws) (table_forms ws) t.written

  pub table-threads : threads_from (table_forms ws) ≡ (table_plan ws).threads
  table-threads = ap threads_from t.written ∙ threads_of (table_plan ws)

  pub table_placed : (p : ℕ) → p < length (table_plan ws).procs
      → PlacedBlock (table_forms ws) (thread_part (table_plan ws)) (get_or (places_from 0 (table_forms ws)) p 0) (body_in (table_plan ws).procs p)
  table_placed p h = proc_placed (table_plan ws) (table_forms ws) t.written p h

  stands_placed : (k : ℕ) (b : Block) (fs : List Form) → PlacedBlock (table_forms ws) fs k b → StandsAt ws k b
  stands_placed k b fs x = record {
    within = omega (arith, x.within, length-map ws form_at);
    later = proc_forms x.rest fs;
    written = map-drop form_at k ws ∙ x.written;
  }

  -- a table that begins with the places
  pub places_starts : (starts : List ℕ) (n : ℕ) → n ≤ length starts → take n starts ≡ places_from 0 (table_forms ws) → Starts ws starts
  places_starts starts n h e =
      let m : n ≡ length (table_plan ws).procs = omega (arith, length-take n starts, ap length e, table-places) in
      let at : (p : ℕ) → p < length (table_plan ws).procs → get_or starts p 0 ≡ get_or (places_from 0 (table_forms ws)) p 0 =
      λ p k. front_at n starts (places_from 0 (table_forms ws)) e p 0 (omega arith) in
      record {
        room = omega arith;
        stands = λ p k. rw (at p k) (stands_placed _ _ _ (table_placed p k));
        numbers = λ p k. at p k ∙ places-numbers (table_forms ws) 0 p;
      }

-- what f makes of the places and g of the blocks that stand there
pub starts_map : (f : ℕ → ℕ) (g : Block → ℕ) (ps : List Block) (starts : List ℕ) → length ps ≤ length starts → ((p : ℕ) → p < length ps → f (get_or starts p 0) ≡ g (body_in ps p))
    → map f (take (length ps) starts) ≡ map g ps
unfolding body_in
starts_map f g [] starts h e = refl
starts_map f g (b ∷ ps) [] h e = absurd (omega arith)
starts_map f g (b ∷ ps) (s ∷ starts) h e = cc (e 0 (omega arith), starts_map f g ps starts (omega arith) (λ p k. e (suc p) (omega arith)))

-- ---- the places, in the shape of a function's needs

module _ (table : List ℕ) (procs : ℕ) (c : procs ≡ length (table_plan table).procs) where
  pub start-room : (starts : List ℕ) (p : ℕ) → Starts table starts → p < procs → p < length starts
  start-room starts p k h = omega (arith, k.room)

  pub start-within : (starts : List ℕ) (p : ℕ) → Starts table starts → p < procs → get_or starts p 0 ≤ length table
  start-within starts p k h = (k.stands p (rw c at h)).within

  pub procs-few : PlanTable table → procs ≤ max_procs
  procs-few t = omega (arith, t.settled.few-procs)

  pub proc-few : (p : ℕ) → PlanTable table → p < procs → p < max_procs
  proc-few p t h = omega (arith, t.settled.few-procs)
