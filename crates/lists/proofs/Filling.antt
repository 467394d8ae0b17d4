-- The lists while they are filled: those of the threads below t are pair lists, for a turn changes only the pairs from its own place on and the count of t. At the
-- end these are the lists of all threads.
use Prim.Native.Nat.{ℕ, zero, suc, ◌+◌, ◌*◌, ◌^◌, ◌≤◌, ◌<◌}
use mathlib.Core.List.{List, [], ◌∷◌, ◌++◌, map, map-append}
use mathlib.Core.Logic.{⊎_elim, ◌≢◌}
use mathlib.Core.Path.{◌≡◌, refl, sym, ap, ◌∙◌}
use native.Mathlib.Omega.{arith}
use lib.ListN.{length, take, drop, get_or, set, length-set}
use lib.Seq.{get_or-set_same, get_or-set_other, take-suc}
use Rattle.limits.specs.Limits.{max_threads, max_pairs}
use Rattle.laws.specs.Wrote.{Wrote}
use Rattle.laws.proofs.Tests.{eq_or_ne}
use Rattle.semantics.specs.Plan.{Block}
use Rattle.semantics.specs.Pairs.{pair_list}
use Rattle.plan.specs.Settled.{RulesKept, table_plan}
use Rattle.plan.proofs.WithinSize.{few-pairs}
use Rattle.columns.specs.Rows.{lists_below, row, rows}
use Rattle.procs.specs.declared.Layout.{Layout}
use Rattle.procs.specs.Laid.{Laid}
use Rattle.procs.proofs.Layouts.{runs-present}
use Rattle.lists.specs.Lists.{ListsAsked, ThreadLists}
use Rattle.columns.specs.Columns.{pair_numbers}
use Rattle.columns.proofs.Numbers.{numbers-length}
use Rattle.lists.proofs.Pairs.{listed-there, kept-before}

-- the list of thread u is the pair list of procedure p
pub record ListedAt (ps : List Block) (p : ℕ) (lists counts : List ℕ) (u : ℕ) : Type 0 where
  pub short : get_or counts u 0 ≤ max_pairs
  pub pairs : row lists counts u ≡ pair_list ps p

pub record Filling (table : List ℕ) (l : Layout) (lists₀ counts₀ lists counts : List ℕ) (t : ℕ) : Type 0 where
  pub asked : ListsAsked table l lists₀ counts₀
  pub within : t ≤ l.threads
  pub same_lists : length lists ≡ length lists₀
  pub same-counts : length counts ≡ length counts₀
  pub each : (u : ℕ) → u < t → ListedAt (table_plan table).procs (get_or l.runs u 0) lists counts u

pub filling_none : (table : List ℕ) (l : Layout) (lists counts : List ℕ) → ListsAsked table l lists counts → Filling table l lists counts lists counts 0
filling_none table l lists counts s =
    record { asked = s; within = omega arith; same_lists = refl; same-counts = refl; each = λ u h. absurd (omega arith) }

-- ---- the lists thread by thread

rows-listed : (ps : List Block) (threads lists counts : List ℕ) (n : ℕ) → n ≤ length threads
    → ((u : ℕ) → u < n → ListedAt ps (get_or threads u 0) lists counts u) → rows lists counts n ≡ map (pair_list ps) (take n threads)
unfolding rows lists_below
rows-listed ps threads lists counts zero h each = refl
rows-listed ps threads lists counts (suc n) h each =
    ap (λ ls. ls ++ (row lists counts n ∷ [])) (rows-listed ps threads lists counts n (omega arith) (λ u b. each u (omega arith)))
    ∙ ap (λ l. map (pair_list ps) (take n threads) ++ (l ∷ [])) (each n (omega arith)).pairs
    ∙ sym (ap (map (pair_list ps)) (take-suc threads n 0 (omega arith)) ∙ map-append (pair_list ps) (take n threads) (get_or threads n 0 ∷ []))

module _ (table : List ℕ) (l : Layout) (lists₀ counts₀ lists counts : List ℕ) (t : ℕ) (s : Filling table l lists₀ counts₀ lists counts t) where
  within : RulesKept table
  within = s.asked.within

  laid : Laid table l
  laid = s.asked.laid

  few-threads : l.threads ≤ max_threads
  few-threads = omega (arith, laid.threads-all, within.plan.settled.few-threads)

  present : (u : ℕ) → u < l.threads → get_or l.runs u 0 < length (table_plan table).procs
  present u h = runs-present table l laid u h within.plan

  module _ (h : t < l.threads) where
    pub proc-there : get_or l.runs t 0 < l.procs
    proc-there = omega (arith, laid.procs-all, present t (omega arith))

    pub list-fits : max_pairs * t < 2 ^ 64
    list-fits = omega (arith, few-threads)

    pub list-room : max_pairs * t + max_pairs ≤ length lists
    list-room = omega (arith, few-threads, s.same_lists, s.asked.pairs)

    pub thread-there : t < max_threads
    thread-there = omega (arith, few-threads)

    pub count-there : t < length counts
    count-there = omega (arith, few-threads, s.same-counts, s.asked.room)

    -- a turn
    module _ (r : ℕ) (after : List ℕ) (p : Wrote lists after (max_pairs * t) (max_pairs * t + r) (pair_list (table_plan table).procs (get_or l.runs t 0))) where
      listed_here : ListedAt (table_plan table).procs (get_or l.runs t 0) after (set counts t r) t
      listed_here =
          let e : get_or (set counts t r) t 0 ≡ r = get_or-set_same counts t r 0 (count-there) in
          record {
            short = omega (arith, p.place, few-pairs table within (get_or l.runs t 0) (present t (omega arith)));
            pairs = ap (λ k. take k (drop (max_pairs * t) after)) e
                ∙ listed-there (pair_list (table_plan table).procs (get_or l.runs t 0)) lists (max_pairs * t) r after p;
          }

      listed-before : (u : ℕ) → u < t → ListedAt (table_plan table).procs (get_or l.runs u 0) after (set counts t r) u
      listed-before u b =
          let e : get_or (set counts t r) u 0 ≡ get_or counts u 0 = get_or-set_other counts t u r 0 (λ (q : u ≡ t). omega arith) in
          record {
            short = omega (arith, (s.each u b).short);
            pairs = ap (λ k. take k (drop (max_pairs * u) after)) e
                ∙ kept-before (pair_list (table_plan table).procs (get_or l.runs t 0)) lists (max_pairs * t) r after p
                (get_or counts u 0) (max_pairs * u) (omega (arith, (s.each u b).short))
                ∙ (s.each u b).pairs;
          }

      pub filling_more : length after ≡ length lists → Filling table l lists₀ counts₀ after (set counts t r) (t + 1)
      filling_more k = record {
        asked = s.asked;
        within = omega arith;
        same_lists = k ∙ s.same_lists;
        same-counts = length-set counts t r ∙ s.same-counts;
        each = λ u b. ⊎_elim (λ (e : u ≡ t). rw e listed_here) (λ (d : u ≢ t). listed-before u (omega arith)) (eq_or_ne u t);
      }

  -- the end
  pub filling_done : l.threads ≤ t → ThreadLists table l.threads lists counts
  filling_done h =
      let all : (u : ℕ) → u < l.threads → ListedAt (table_plan table).procs (get_or l.runs u 0) lists counts u = λ u b. s.each u (omega arith) in
      record {
        listed = rows-listed (table_plan table).procs l.runs lists counts l.threads laid.threads-there all
            ∙ ap (map (pair_list (table_plan table).procs)) laid.runs_are;
        given = record {
          few = few-threads;
          pairs = omega (arith, s.same_lists, s.asked.pairs);
          threads = omega (arith, s.same-counts, s.asked.room);
          short = λ u b. (all u b).short;
        };
      }

-- ---- the lists in two columns, in the shape of the function's needs

module _ (table : List ℕ) (l : Layout) (lists₀ counts₀ ms ks counts : List ℕ) (t : ℕ) (s : Filling table l lists₀ counts₀ (pair_numbers ms ks) counts t) (h : t < l.threads) where
  pub masks-room : max_pairs * t + max_pairs ≤ length ms
  masks-room = omega (arith, list-room table l lists₀ counts₀ (pair_numbers ms ks) counts t s h, numbers-length ms ks)

  pub codes_room : max_pairs * t + max_pairs ≤ length ks
  codes_room = omega (arith, list-room table l lists₀ counts₀ (pair_numbers ms ks) counts t s h, numbers-length ms ks)

  pub columns_more : (r : ℕ) (ms' ks' : List ℕ)
      → Wrote (pair_numbers ms ks) (pair_numbers ms' ks') (max_pairs * t) (max_pairs * t + r) (pair_list (table_plan table).procs (get_or l.runs t 0)) → length ms' ≡ length ms → length ks' ≡ length ks
      → Filling table l lists₀ counts₀ (pair_numbers ms' ks') (set counts t r) (t + 1)
  columns_more r ms' ks' p e f =
      filling_more table l lists₀ counts₀ (pair_numbers ms ks) counts t s h r (pair_numbers ms' ks') p (numbers-length ms' ks' ∙ omega arith ∙ sym (numbers-length ms ks))
