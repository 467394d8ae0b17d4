-- What the pass over a table writes: the front of a list, of which the rest is still to be found, so that there is room for it (`Found`).
use Prim.Native.Nat.{ℕ, ◌+◌, ◌<◌, ◌≤◌}
use native.Mathlib.Numerals.{add-one}
use native.Mathlib.Omega.{arith}
use mathlib.Core.Path.{◌≡◌, refl, sym, ap, ◌∙◌}
use mathlib.Core.List.{List, [], ◌∷◌, ◌++◌, map, append-nil}
use lib.ListN.{length, take, drop, get_or, set, length-take, length-append, length-set, drop_of_length-le}
use lib.Seq.{drop-cons}
use Rattle.std.proofs.lemmas.Bool.{false_from_ne_true}
use Rattle.limits.specs.Limits.{max_procs, max_threads}
use Rattle.laws.proofs.Writes.{emit_more}
use Rattle.text.specs.declared.Form.{Form}
use Rattle.text.specs.declared.Form.TheVariants.{Proc, Thread}
use Rattle.text.specs.Forms.{number_in, kind_in, is_proc, is_thread}
use Rattle.text.proofs.Matches.{kind-form}
use Rattle.plan.specs.Table.{form_at, table_forms}
use Rattle.plan.specs.Settled.{PlanTable}
use Rattle.procs.specs.Laid.{Laid}
use Rattle.procs.specs.Passes.{cons_if, places_from, threads_from}
use Rattle.procs.proofs.Places.{table-places, table-threads, places_starts}

-- ---- a buffer that is filled

-- the first n of a buffer of a size, and what is still to be found, are together all, for which there is room
pub record Found (size : ℕ) (all out : List ℕ) (n : ℕ) (rest : List ℕ) : Type 0 where
  pub full : size ≡ length out
  pub room : length all ≤ size
  pub fits : n ≤ size
  pub whole : take n out ++ rest ≡ all

module _ (size : ℕ) (all out : List ℕ) (n : ℕ) where
  found-none : size ≡ length out → length all ≤ size → Found size all out 0 all
  found-none e h = record { full = e; room = h; fits = omega arith; whole = refl }

  module _ (v : ℕ) (rest : List ℕ) (f : Found size all out n (v ∷ rest)) where
    found-room : n < size
    found-room = omega (arith, f.full, f.room, f.fits, length-take n out, length-append (take n out) (v ∷ rest), ap length f.whole)

    found-more : Found size all (set out n v) (n + 1) rest
    found-more = record {
      full = f.full ∙ sym (length-set out n v);
      room = f.room;
      fits = omega (arith, found-room);
      whole = emit_more out out rest all n v (omega (arith, f.full, found-room)) f.whole;
    }

  module _ (f : Found size all out n []) where
    found-all : take n out ≡ all
    found-all = sym (append-nil (take n out)) ∙ f.whole

    found-count : n ≡ length all
    found-count = omega (arith, f.full, f.fits, length-take n out, ap length found-all)

-- ---- the pass

-- the places and the threads of the forms before form i are written, those of the others are still to be found
pub record Pass (table : List ℕ) (i : ℕ) (starts : List ℕ) (procs : ℕ) (runs : List ℕ) (threads : ℕ) : Type 0 where
  pub places : Found max_procs (places_from 0 (table_forms table)) starts procs (places_from i (map form_at (drop i table)))
  pub named : Found max_threads (threads_from (table_forms table)) runs threads (threads_from (map form_at (drop i table)))

module _ (table starts runs : List ℕ) where
  pub pass_none : PlanTable table → max_procs ≡ length starts → max_threads ≡ length runs → Pass table 0 starts 0 runs 0
  pass_none t e g = record {
    places = found-none max_procs _ starts 0 e (omega (arith, table-places table t, t.settled.few-procs));
    named = found-none max_threads _ runs 0 g (omega (arith, ap length (table-threads table t), t.settled.few-threads));
  }

  module _ (i procs threads : ℕ) (p : Pass table i starts procs runs threads) where
    module _ (f : Form) (h : i < length table) (e : f ≡ form_at (get_or table i 0)) where
      place-turn : Found max_procs (places_from 0 (table_forms table)) starts procs (cons_if (is_proc f) (i + 1) (places_from (i + 1) (map form_at (drop (i + 1) table))))
      unfolding places_from
      place-turn = rw (e, add-one) (rw (drop-cons table i 0 h) at p.places)

      thread-turn : Found max_threads (threads_from (table_forms table)) runs threads (cons_if (is_thread f) (number_in f) (threads_from (map form_at (drop (i + 1) table))))
      unfolding threads_from
      thread-turn = rw (e, add-one) (rw (drop-cons table i 0 h) at p.named)

      pub place-room : f ≡ Proc → procs < max_procs
      unfolding kind_in
      place-room g = found-room max_procs _ starts procs _ _ (rw g at place-turn)

      pub pass_proc : f ≡ Proc → Pass table (i + 1) (set starts procs (i + 1)) (procs + 1) runs threads
      unfolding kind_in
      pass_proc g = record { places = found-more max_procs _ starts procs _ _ (rw g at place-turn); named = rw g at thread-turn }

      module _ (q : ℕ) (g : f ≡ Thread q) where
        pub thread-room : threads < max_threads
        unfolding kind_in
        thread-room = found-room max_threads _ runs threads _ _ (rw g at thread-turn)

        pub pass-thread : (v : ℕ) → v ≡ q → Pass table (i + 1) starts procs (set runs threads v) (threads + 1)
        unfolding kind_in number_in
        pass-thread v k = record { places = rw g at place-turn; named = rw k (found-more max_threads _ runs threads _ _ (rw g at thread-turn)) }

      pub pass-other : (f ≡ Proc → ⊥) → ((q : ℕ) → f ≡ Thread q → ⊥) → Pass table (i + 1) starts procs runs threads
      pass-other a b = record {
        places = rw (false_from_ne_true (is_proc f) (λ k. a (kind-form Proc f k))) at place-turn;
        named = rw (false_from_ne_true (is_thread f) (λ k. b (number_in f) (kind-form (Thread 0) f k))) at thread-turn;
      }

    pub pass-laid : PlanTable table → length table ≤ i → Laid table (record { procs = procs; starts = starts; threads = threads; runs = runs })
    unfolding places_from threads_from
    pass-laid t h =
        let a : Found max_procs (places_from 0 (table_forms table)) starts procs [] = rw (drop_of_length-le table h) at p.places in
        let b : Found max_threads (threads_from (table_forms table)) runs threads [] = rw (drop_of_length-le table h) at p.named in
        record {
          procs-all = found-count max_procs _ starts procs a ∙ table-places table t;
          starts_full = a.full;
          starts_there = places_starts table t starts procs (omega (arith, a.full, a.fits)) (found-all max_procs _ starts procs a);
          threads-all = found-count max_threads _ runs threads b ∙ ap length (table-threads table t);
          runs-full = b.full;
          threads-there = omega (arith, b.full, b.fits);
          runs_are = found-all max_threads _ runs threads b ∙ table-threads table t;
        }
