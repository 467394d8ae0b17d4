-- The walk of a block. Each law says what a function of the walk has done, from what the functions that it called have done: the steps put into the buffer are those
-- of `walk_with`, and where a walk goes back, what it wrote before is there still. A statement leaves the rest of its block, and so does every turn of the loop along it.
use Prim.Native.Nat.{ℕ, zero, suc, ◌+◌, ◌-◌, ◌^◌, ◌<◌, ◌≤◌}
use lib.Bits.{bit_or}
use native.Mathlib.Omega.{arith}
use native.Mathlib.Nat.{le_refl}
use mathlib.Core.Bool.{Bool, true, false}
use Rattle.std.specs.Prelude.{None}
use Rattle.std.specs.declared.ops.ControlFlow.TheVariants.{Continue, Break}
use mathlib.Core.List.{List, [], ◌∷◌}
use mathlib.Core.Path.{◌≡◌, refl, sym, ap, ◌∙◌}
use lib.ListN.{length, take, get_or}
use Rattle.limits.specs.Limits.{claim_count}
use Rattle.text.specs.declared.Form.{Form}
use Rattle.text.specs.declared.Form.TheVariants.{Close, Skip, Call, Loop, Either, One, Two}
use Rattle.semantics.specs.Plan.{Block, skip, call, hold, loop, either, body_in}
use Rattle.semantics.specs.Sizes.{size_with, size_at}
use Rattle.semantics.specs.Paths.{step_of, holding, put, Walked, found, passed, and_then, gives, walk_with, walk_at}
use Rattle.plan.specs.Grammar.{block_forms, claim_form}
use Rattle.plan.specs.Table.{form_at}
use Rattle.paths.specs.declared.Spot.{Spot}
use Rattle.paths.specs.declared.Way.{Way}
use Rattle.paths.specs.Walks.{ClaimOf, procs_in, forms_from, InPlan, Inside, size_in, walk_in, FrontKept, PutAt, WalkReady, Stopped, BlockWalked, Walks, Left, StatementWalked, StatementWalks}
use Rattle.paths.proofs.Buffers.{kept_same, kept_then, kept_back}
use Rattle.paths.proofs.Measure.{measure}
use Rattle.paths.proofs.Blocks.{none-begins, statement-begins, table_more, table_none, table-behind}
use Rattle.paths.proofs.Blocks.{close-only, skip-only, call-only, hold-only, loop-only, either-only}

module _ (ps : List Block) (d : ℕ) where
  no_depth : (w p m : ℕ) (path : List ℕ) → d ≡ 0 → walk_at d ps w p m path ≡ passed path
  unfolding walk_at
  no_depth w p m path e = rw e

  pub one_deeper : (w p m : ℕ) (path : List ℕ) → (d ≡ 0 → ⊥) → walk_at d ps w p m path ≡ walk_with (walk_at (d - 1) ps w) w m path (body_in ps p)
  unfolding walk_at
  one_deeper w p m path n = go d n
    where
      go : (d : ℕ) → (d ≡ 0 → ⊥) → walk_at d ps w p m path ≡ walk_with (walk_at (d - 1) ps w) w m path (body_in ps p)
      go zero n = absurd (n refl)
      go (suc d) n = let e : suc d - 1 ≡ d = omega arith in rw e

  pub size-deeper : (p : ℕ) → (d ≡ 0 → ⊥) → size_at d ps p ≡ size_with (size_at (d - 1) ps) (body_in ps p)
  unfolding size_at
  size-deeper p n = go d n
    where
      go : (d : ℕ) → (d ≡ 0 → ⊥) → size_at d ps p ≡ size_with (size_at (d - 1) ps) (body_in ps p)
      go zero n = absurd (n refl)
      go (suc d) n = let e : suc d - 1 ≡ d = omega arith in rw e

abbrev spot : ℕ → ℕ → Spot
spot next count = record { next = next; count = count }

-- a step, and the block behind it
pub enter_walks : {ws : List ℕ} {pair : ℕ} {way : Way} {at n k : ℕ} {s s₁ s₂ : List ℕ} {r : Stopped} (c : ℕ) → PutAt s n (step_of c way.mask) k s₁
    → Walks ws pair way at s₁ k (take k s₁) k r s₂ → Walks ws pair way at s n (put (take n s) c way.mask) (n + 1) r s₂
enter_walks {ws} {pair} {way} c u i = record {
  buffer = kept_then u.buffer i.buffer;
  forward = i.forward;
  walked = λ b later e v h.
      let o = i.walked b later e v (omega (arith, u.one, u.buffer.size)) in
      record { outcome = ap (λ q. walk_in ws pair way q b) (sym (u.put (omega arith))) ∙ o.outcome; next = o.next; short = omega (arith, o.short, u.one) };
}

-- a walk that stopped at r, where r is known
pub walks-at : {ws : List ℕ} {pair : ℕ} {way : Way} {at n k : ℕ} {path s s₁ : List ℕ} {r r' : Stopped} → r' ≡ r → Walks ws pair way at s n path k r s₁ → Walks ws pair way at s n path k r' s₁
walks-at e w = rw e w

pub statement-at : {ws : List ℕ} {pair : ℕ} {way : Way} {f : Form} {at n : ℕ} {s s₁ : List ℕ} {r r' : Stopped} → r' ≡ r → StatementWalks ws pair way f at s n r s₁ → StatementWalks ws pair way f at s n r' s₁
statement-at e w = rw e w

-- ---- along a block

-- The walk from place `at` has come to a spot: what is left of the block there.
pub record Along (ws : List ℕ) (pair : ℕ) (way : Way) (at : ℕ) (before : List ℕ) (n : ℕ) (here : Spot) (after : List ℕ) : Type 0 where
  pub buffer : FrontKept before n after here.count
  pub forward : at ≤ here.next
  pub left : (b : Block) (later : List Form) → forms_from ws at ≡ block_forms b (Close ∷ later) → Inside ws b → n + size_in ws way b ≤ length before
      → Left ws pair way (take n before) n b later here after

pub along_none : {ws : List ℕ} {pair : ℕ} {way : Way} {s : List ℕ} (from : Spot) → from.count ≤ length s → Along ws pair way from.next s from.count from s
along_none {s = s} from h = record {
  buffer = kept_same s from.count h;
  forward = le_refl from.next;
  left = λ b later e v k. record { rest = b; forms = e; inside = v; same = refl; short = omega arith };
}

module _ {ws : List ℕ} {pair : ℕ} {way : Way} {at n : ℕ} {here : Spot} {s s₁ : List ℕ} (a : Along ws pair way at s n here s₁) where
  pub along_ended : length ws ≤ here.next → Walks ws pair way at s n (take n s) n (Continue here) s₁
  along_ended h = record {
    buffer = a.buffer;
    forward = a.forward;
    walked = λ b later f v k. let l = a.left b later f v k in
        absurd (none-begins (InPlan ws) later [] l.rest l.inside (sym (table_none ws here.next h) ∙ l.forms));
  }

  module _ (f : Form) {x : ℕ} (look : (here.next < length ws) × ((d : ℕ) → x ≡ get_or ws here.next d)) (is : f ≡ form_at x) where
    form-left : {b : Block} {later : List Form} (l : Left ws pair way (take n s) n b later here s₁) → f ∷ forms_from ws (here.next + 1) ≡ block_forms l.rest (Close ∷ later)
    form-left l = let t = table_more ws here.next look.0 in let e = l.forms in let k = look.1 0 in cc

  pub along_closed : {x : ℕ} → (here.next < length ws) × ((d : ℕ) → x ≡ get_or ws here.next d) → Close ≡ form_at x
      → Walks ws pair way at s n (take n s) n (Continue (spot (here.next + 1) here.count)) s₁
  unfolding walk_with
  along_closed look is = record {
    buffer = a.buffer;
    forward = omega (arith, a.forward);
    walked = λ b later g v k. let l = a.left b later g v k in
        let end = close-only (InPlan ws) later (forms_from ws (here.next + 1))
        (λ x. (walk_in ws pair way (take here.count s₁) x ≡ passed (take here.count s₁)) × (forms_from ws (here.next + 1) ≡ later)) (λ e. (refl, e)) l.rest l.inside
        (form-left Close look is l) in
        record { outcome = l.same ∙ end.0; next = end.1; short = omega (arith, l.short) };
  }

  module _ (f : Form) {x : ℕ} (look : (here.next < length ws) × ((d : ℕ) → x ≡ get_or ws here.next d)) (is : f ≡ form_at x) where
    -- a statement more
    module _ (other : f ≡ Close → ⊥) {r : Stopped} {s₂ : List ℕ} (p : StatementWalks ws pair way f (here.next + 1) s₁ here.count r s₂) where
      statement-passed : {b : Block} {later : List Form} (l : Left ws pair way (take n s) n b later here s₁) → n + size_in ws way b ≤ length s
          → StatementWalked ws pair way (take here.count s₁) here.count l.rest later r s₂
      statement-passed {b} {later} l k =
          p.walked l.rest later other (form-left f look is l) l.inside
          (omega (arith, l.short, a.buffer.size))

    pub along-reached : (f ≡ Close → ⊥) → {k : ℕ} {s₂ : List ℕ} → StatementWalks ws pair way f (here.next + 1) s₁ here.count (Break k) s₂ → Walks ws pair way at s n (take n s) n (Break k) s₂
    along-reached other p = record {
      buffer = kept_then a.buffer p.buffer;
      forward = tt;
      walked = λ b later e v h. let l = a.left b later e v h in let o = statement-passed other p l h in record {
        outcome = l.same ∙ o.outcome;
        next = tt;
        short = omega (arith, l.short, o.short);
      };
    }

    module _ (other : f ≡ Close → ⊥) {there' : Spot} {s₂ : List ℕ} (p : StatementWalks ws pair way f (here.next + 1) s₁ here.count (Continue there') s₂) where
      pub along-less : length ws - there'.next < length ws - here.next
      along-less = omega (arith, p.forward)

      pub along-more : Along ws pair way at s n there' s₂
      along-more = record {
        buffer = kept_then a.buffer p.buffer;
        forward = omega (arith, a.forward, p.forward);
        left = λ b later e v k. let l = a.left b later e v k in let o = statement-passed other p l k in let m = o.outcome in record {
          rest = m.rest;
          forms = m.forms;
          inside = m.inside;
          same = l.same ∙ m.same;
          short = omega (arith, l.short, m.short);
        };
      }

-- ---- the statements

-- a block for whose size there is room is passed
abbrev Passing : List ℕ → ℕ → Way → List ℕ → ℕ → List Form → Stopped → List ℕ → Block → Type 0
Passing ws pair way s n later r s₁ b = n + size_in ws way b ≤ length s → StatementWalked ws pair way (take n s) n b later r s₁

left_passed : {ws : List ℕ} {pair : ℕ} {way : Way} {path : List ℕ} {n : ℕ} {b : Block} {later : List Form} {here : Spot} {s : List ℕ} → Left ws pair way path n b later here s
    → StatementWalked ws pair way path n b later (Continue here) s
left_passed l = record { outcome = l; short = omega (arith, l.short) }

pub passes_as : {ws : List ℕ} {pair : ℕ} {way : Way} {at n : ℕ} {s s₁ : List ℕ} {r : Stopped} (f g : Form) → f ≡ g → StatementWalks ws pair way g at s n r s₁ → StatementWalks ws pair way f at s n r s₁
passes_as f g e p = rw e p

-- a form that begins no statement
pub other-passes : {ws : List ℕ} {pair : ℕ} {way : Way} {s : List ℕ} (from : Spot) (f : Form) → from.count ≤ length s → (f ≡ Skip → ⊥) → ((p : ℕ) → f ≡ Call p → ⊥) → (f ≡ Loop → ⊥)
    → (f ≡ Either → ⊥) → ClaimOf f None → StatementWalks ws pair way f from.next s from.count (Continue from) s
other-passes {ws} {pair} {way} {s} from f h k l m o none = record {
  buffer = kept_same s from.count h;
  forward = le_refl from.next;
  walked = λ b later c e v r. absurd (statement-begins (InPlan ws) later (forms_from ws from.next) f k l m o none c b v e);
}

module _ {ws : List ℕ} {pair : ℕ} {way : Way} {at n k : ℕ} {s s₁ : List ℕ} (u : PutAt s n (step_of 0 way.mask) k s₁) where
  pub skip-passes : StatementWalks ws pair way Skip at s n (Continue (spot at k)) s₁
  unfolding walk_with size_with
  skip-passes = record {
    buffer = u.buffer;
    forward = le_refl at;
    walked = λ b later c g v. skip-only (InPlan ws) later (forms_from ws at) (Passing ws pair way s n later (Continue (spot at k)) s₁) (go later) b v g;
  }
    where
      go : (later : List Form) (x : Block) → Inside ws x → forms_from ws at ≡ block_forms x (Close ∷ later) → Passing ws pair way s n later (Continue (spot at k)) s₁ (skip x)
      go later x v g h = left_passed (record {
        rest = x;
        forms = g;
        inside = v;
        same = ap (λ q. walk_in ws pair way q x) (sym (u.put (omega arith)));
        short = omega (arith, u.one);
      })

  -- a call that goes too deep
  pub call-passes_none : (p : ℕ) → (1 ≤ way.depth → ⊥) → StatementWalks ws pair way (Call p) at s n (Continue (spot at k)) s₁
  unfolding walk_with size_with
  call-passes_none p deep = record {
    buffer = u.buffer;
    forward = le_refl at;
    walked = λ b later c g v. call-only (InPlan ws) later (forms_from ws at) p (Passing ws pair way s n later (Continue (spot at k)) s₁) (go later) b v g;
  }
    where
      go : (later : List Form) (x : Block) → p < length (procs_in ws) → Inside ws x → forms_from ws at ≡ block_forms x (Close ∷ later)
          → Passing ws pair way s n later (Continue (spot at k)) s₁ (call p x)
      go later x c v g h = let z : way.depth ≡ 0 = omega arith in left_passed (record {
        rest = x;
        forms = g;
        inside = v;
        same = ap (λ o. and_then o (λ q. walk_in ws pair way q x)) (no_depth (procs_in ws) way.depth pair p way.mask (put (take n s) 0 way.mask) z)
            ∙ ap (λ q. walk_in ws pair way q x) (sym (u.put (omega arith)));
        short = omega (arith, u.one);
      })

-- a call: the walk of the procedure
module _ {ws starts : List ℕ} {pair : ℕ} {way : Way} {p q d n : ℕ} {s s₁ : List ℕ} {r : Stopped} (ready : WalkReady ws starts s n) (deep : (1 ≤ way.depth) × (d ≡ way.depth - 1))
    (begin : p < length starts → q ≡ get_or starts p 0) (w : Walks ws pair (record way { depth = d }) q s n (put (take n s) 0 way.mask) (n + 1) r s₁) where
  called : p < length (procs_in ws) → n + 1 + size_at way.depth (procs_in ws) p ≤ length s
      → (later : List Form) × BlockWalked ws pair (record way { depth = way.depth - 1 }) (put (take n s) 0 way.mask) (n + 1) (body_in (procs_in ws) p) later r s₁
  called c h =
      let z : way.depth ≡ 0 → ⊥ = λ z. omega arith in
      let there = ready.begins.stands p c in
      let y = size-deeper (procs_in ws) way.depth p z in
      let place : q ≡ get_or starts p 0 = begin (omega (arith, ready.begins.room)) in (
        there.later,
        (rw deep.1 at w.walked) (body_in (procs_in ws) p) there.later (rw place there.written) (ready.plan.settled.callees_present p) (omega arith),
      )

  deeper : walk_at way.depth (procs_in ws) pair p way.mask (put (take n s) 0 way.mask)
      ≡ walk_in ws pair (record way { depth = way.depth - 1 }) (put (take n s) 0 way.mask) (body_in (procs_in ws) p)
  deeper = one_deeper (procs_in ws) way.depth pair p way.mask (put (take n s) 0 way.mask) (λ z. omega arith)

module _ {ws starts : List ℕ} {pair : ℕ} {way : Way} {p q d n k : ℕ} {s s₁ : List ℕ} (ready : WalkReady ws starts s n) (deep : (1 ≤ way.depth) × (d ≡ way.depth - 1))
    (begin : p < length starts → q ≡ get_or starts p 0) (w : Walks ws pair (record way { depth = d }) q s n (put (take n s) 0 way.mask) (n + 1) (Break k) s₁) where
  pub call-passes-found : {at : ℕ} → StatementWalks ws pair way (Call p) at s n (Break k) s₁
  unfolding walk_with size_with
  call-passes-found {at} = record {
    buffer = w.buffer;
    forward = tt;
    walked = λ b later c g v. call-only (InPlan ws) later (forms_from ws at) p (Passing ws pair way s n later (Break k) s₁) (go later) b v g;
  }
    where
      go : (later : List Form) (x : Block) → p < length (procs_in ws) → Inside ws x → forms_from ws at ≡ block_forms x (Close ∷ later)
          → Passing ws pair way s n later (Break k) s₁ (call p x)
      go later x c v g h =
          let y = size-deeper (procs_in ws) way.depth p (λ z. omega arith) in
          let o = (called ready deep begin w c (omega arith)).1 in
          record {
            outcome = ap (λ o. and_then o (λ q. walk_in ws pair way q x)) (deeper ready deep begin w ∙ o.outcome);
            short = omega (arith, o.short);
          }

module _ {ws starts : List ℕ} {pair : ℕ} {way : Way} {p q d n : ℕ} {s s₁ : List ℕ} {here : Spot} (ready : WalkReady ws starts s n) (deep : (1 ≤ way.depth) × (d ≡ way.depth - 1))
    (begin : p < length starts → q ≡ get_or starts p 0) (w : Walks ws pair (record way { depth = d }) q s n (put (take n s) 0 way.mask) (n + 1) (Continue here) s₁) where
  pub call_passes : {at : ℕ} → StatementWalks ws pair way (Call p) at s n (Continue (spot at here.count)) s₁
  unfolding walk_with size_with
  call_passes {at} = record {
    buffer = w.buffer;
    forward = le_refl at;
    walked = λ b later c g v.
        call-only (InPlan ws) later (forms_from ws at) p (Passing ws pair way s n later (Continue (spot at here.count)) s₁) (go later) b v g;
  }
    where
      go : (later : List Form) (x : Block) → p < length (procs_in ws) → Inside ws x → forms_from ws at ≡ block_forms x (Close ∷ later)
          → Passing ws pair way s n later (Continue (spot at here.count)) s₁ (call p x)
      go later x c v g h =
          let y = size-deeper (procs_in ws) way.depth p (λ z. omega arith) in
          let o = (called ready deep begin w c (omega arith)).1 in
          left_passed (record {
            rest = x;
            forms = g;
            inside = v;
            same = ap (λ o. and_then o (λ q. walk_in ws pair way q x)) (deeper ready deep begin w ∙ o.outcome);
            short = omega (arith, o.short);
          })

-- a hold: it gives the pair, or its block is walked
module _ (ws : List ℕ) (pair : ℕ) (way : Way) (path : List ℕ) (l : ℕ) (x y : Block) where
  hold-here : gives pair way.mask l ≡ true → walk_in ws pair way path (hold l x y) ≡ found path
  unfolding walk_with
  hold-here e = rw e

  hold-then : gives pair way.mask l ≡ false → walk_in ws pair way path (hold l x y)
      ≡ and_then (walk_in ws pair (record way { mask = holding way.mask l }) (put path 0 (holding way.mask l)) x) (λ q. walk_in ws pair way (put q 0 way.mask) y)
  unfolding walk_with
  hold-then e = rw e

pub hold-passes-here : {ws : List ℕ} {pair : ℕ} {way : Way} {at n l : ℕ} {s : List ℕ} {t : Bool} → l < claim_count → n ≤ length s → t ≡ gives pair way.mask l → t ≡ true
    → StatementWalks ws pair way (claim_form l) at s n (Break n) s
unfolding size_with
hold-passes-here {ws} {pair} {way} {at} {n} {l} {s} small room g f = record {
  buffer = kept_same s n room;
  forward = tt;
  walked = λ b later c e v. hold-only (InPlan ws) later (forms_from ws at) l (Passing ws pair way s n later (Break n) s) (go later) b v e;
}
  where
    go : (later : List Form) (x y : Block) → l < claim_count → Inside ws x → Inside ws y → forms_from ws at ≡ block_forms x (Close ∷ block_forms y (Close ∷ later))
        → Passing ws pair way s n later (Break n) s (hold l x y)
    go later x y c v v' e h = record { outcome = hold-here ws pair way (take n s) l x y (sym g ∙ f); short = omega arith }

module _ (pair : ℕ) (way : Way) {l m : ℕ} {t : Bool} (small : l < claim_count) (g : t ≡ gives pair way.mask l) (f : t ≡ false) (with : m ≡ 2 ^ l) where
  held_then : (ws path : List ℕ) (x y : Block) (o : Walked) → walk_in ws pair (record way { mask = bit_or way.mask m }) (put path 0 (bit_or way.mask m)) x ≡ o
      → walk_in ws pair way path (hold l x y) ≡ and_then o (λ q. walk_in ws pair way (put q 0 way.mask) y)
  held_then ws path x y o e =
      hold-then ws pair way path l x y (sym g ∙ f)
      ∙ ap (λ o. and_then o (λ q. walk_in ws pair way (put q 0 way.mask) y))
      (ap (λ z. walk_in ws pair (record way { mask = bit_or way.mask z }) (put path 0 (bit_or way.mask z)) x) (sym with) ∙ e)

  pub hold-passes-found : {ws : List ℕ} {at n k : ℕ} {s s₁ : List ℕ} → Walks ws pair (record way { mask = bit_or way.mask m }) at s n (put (take n s) 0 (bit_or way.mask m)) (n + 1) (Break k) s₁
      → StatementWalks ws pair way (claim_form l) at s n (Break k) s₁
  unfolding size_with
  hold-passes-found {ws} {at} {n} {k} {s} {s₁} w = record {
    buffer = w.buffer;
    forward = tt;
    walked = λ b later c e v. hold-only (InPlan ws) later (forms_from ws at) l (Passing ws pair way s n later (Break k) s₁) (go later) b v e;
  }
    where
      go : (later : List Form) (x y : Block) → l < claim_count → Inside ws x → Inside ws y → forms_from ws at ≡ block_forms x (Close ∷ block_forms y (Close ∷ later))
          → Passing ws pair way s n later (Break k) s₁ (hold l x y)
      go later x y c v v' e h =
          let o = w.walked x (block_forms y (Close ∷ later)) e v (omega arith) in
          record { outcome = held_then ws (take n s) x y (found (take k s₁)) o.outcome; short = omega (arith, o.short) }

  pub hold-passes : {ws : List ℕ} {at n j : ℕ} {here : Spot} {s s₁ s₂ : List ℕ} → Walks ws pair (record way { mask = bit_or way.mask m }) at s n (put (take n s) 0 (bit_or way.mask m)) (n + 1) (Continue here) s₁
      → PutAt s₁ here.count (step_of 0 way.mask) j s₂ → StatementWalks ws pair way (claim_form l) at s n (Continue (spot here.next j)) s₂
  unfolding size_with
  hold-passes {ws} {at} {n} {j} {here} {s} {s₁} {s₂} w u = record {
    buffer = kept_then w.buffer u.buffer;
    forward = w.forward;
    walked = λ b later c e v.
        hold-only (InPlan ws) later (forms_from ws at) l (Passing ws pair way s n later (Continue (spot here.next j)) s₂) (go later) b v e;
  }
    where
      go : (later : List Form) (x y : Block) → l < claim_count → Inside ws x → Inside ws y → forms_from ws at ≡ block_forms x (Close ∷ block_forms y (Close ∷ later))
          → Passing ws pair way s n later (Continue (spot here.next j)) s₂ (hold l x y)
      go later x y c v v' e h =
          let o = w.walked x (block_forms y (Close ∷ later)) e v (omega arith) in
          left_passed (record {
            rest = y;
            forms = o.next;
            inside = v';
            same = held_then ws (take n s) x y (passed (take here.count s₁)) o.outcome ∙ ap (λ q. walk_in ws pair way q y) (sym (u.put (omega (arith, o.short, w.buffer.size))));
            short = omega (arith, o.short, u.one);
          })

-- a loop
pub loop-passes-found : {ws : List ℕ} {pair : ℕ} {way : Way} {at n k : ℕ} {s s₁ : List ℕ} → Walks ws pair way at s n (put (take n s) 1 way.mask) (n + 1) (Break k) s₁
    → StatementWalks ws pair way Loop at s n (Break k) s₁
unfolding walk_with size_with
loop-passes-found {ws} {pair} {way} {at} {n} {k} {s} {s₁} w = record {
  buffer = w.buffer;
  forward = tt;
  walked = λ b later c e v. loop-only (InPlan ws) later (forms_from ws at) (Passing ws pair way s n later (Break k) s₁) (go later) b v e;
}
  where
    go : (later : List Form) (x y : Block) → Inside ws x → Inside ws y → forms_from ws at ≡ block_forms x (Close ∷ block_forms y (Close ∷ later))
        → Passing ws pair way s n later (Break k) s₁ (loop x y)
    go later x y v v' e h =
        let o = w.walked x (block_forms y (Close ∷ later)) e v (omega arith) in
        record { outcome = ap (λ o. and_then o (λ q. walk_in ws pair way (put (take n s) 2 way.mask) y)) o.outcome; short = omega (arith, o.short) }

pub loop-passes : {ws : List ℕ} {pair : ℕ} {way : Way} {at n j : ℕ} {here : Spot} {s s₁ s₂ : List ℕ} → Walks ws pair way at s n (put (take n s) 1 way.mask) (n + 1) (Continue here) s₁
    → PutAt s₁ n (step_of 2 way.mask) j s₂ → StatementWalks ws pair way Loop at s n (Continue (spot here.next j)) s₂
unfolding walk_with size_with
loop-passes {ws} {pair} {way} {at} {n} {j} {here} {s} {s₁} {s₂} w u = record {
  buffer = kept_back w.buffer u.buffer;
  forward = w.forward;
  walked = λ b later c e v. loop-only (InPlan ws) later (forms_from ws at) (Passing ws pair way s n later (Continue (spot here.next j)) s₂) (go later) b v e;
}
  where
    go : (later : List Form) (x y : Block) → Inside ws x → Inside ws y → forms_from ws at ≡ block_forms x (Close ∷ block_forms y (Close ∷ later))
        → Passing ws pair way s n later (Continue (spot here.next j)) s₂ (loop x y)
    go later x y v v' e h =
        let o = w.walked x (block_forms y (Close ∷ later)) e v (omega arith) in
        left_passed (record {
          rest = y;
          forms = o.next;
          inside = v';
          same = ap (λ o. and_then o (λ q. walk_in ws pair way (put (take n s) 2 way.mask) y)) o.outcome
              ∙ ap (λ q. walk_in ws pair way (put q 2 way.mask) y) (sym w.buffer.same)
              ∙ ap (λ q. walk_in ws pair way q y) (sym (u.put (omega (arith, w.buffer.size))));
          short = omega (arith, u.one);
        })

-- an either
module _ {ws : List ℕ} {pair : ℕ} {way : Way} {at q n : ℕ} {s s₁ : List ℕ} {r : Stopped} (behind : (at ≤ q) × (at < length ws → q ≡ at + 1))
    (w : Walks ws pair way q s n (put (take n s) 1 way.mask) (n + 1) r s₁) where
  one-walked : (x y z : Block) → Inside ws x → (later : List Form) → forms_from ws at ≡ One ∷ block_forms x (Close ∷ later)
      → n + size_in ws way (either x y z) ≤ length s → BlockWalked ws pair way (put (take n s) 1 way.mask) (n + 1) x later r s₁
  unfolding size_with
  one-walked x y z v later e h = w.walked x later (table-behind ws at q One (block_forms x (Close ∷ later)) behind.1 e) v (omega arith)

pub either-passes-found : {ws : List ℕ} {pair : ℕ} {way : Way} {at q n k : ℕ} {s s₁ : List ℕ} → (at ≤ q) × (at < length ws → q ≡ at + 1)
    → Walks ws pair way q s n (put (take n s) 1 way.mask) (n + 1) (Break k) s₁ → StatementWalks ws pair way Either at s n (Break k) s₁
unfolding walk_with size_with
either-passes-found {ws} {pair} {way} {at} {q} {n} {k} {s} {s₁} behind w = record {
  buffer = w.buffer;
  forward = tt;
  walked = λ b later c e v. either-only (InPlan ws) later (forms_from ws at) (Passing ws pair way s n later (Break k) s₁) (go later) b v e;
}
  where
    go : (later : List Form) (x y z : Block) → Inside ws x → Inside ws y → Inside ws z
        → forms_from ws at ≡ One ∷ block_forms x (Close ∷ Two ∷ block_forms y (Close ∷ Close ∷ block_forms z (Close ∷ later)))
        → Passing ws pair way s n later (Break k) s₁ (either x y z)
    go later x y z v v' v'' e h =
        let o = one-walked behind w x y z v (Two ∷ block_forms y (Close ∷ Close ∷ block_forms z (Close ∷ later))) e h in
        record {
          outcome = ap (λ o. and_then o (λ q. and_then (walk_in ws pair way (put (take n s) 2 way.mask) y) (λ q. walk_in ws pair way q z))) o.outcome;
          short = omega (arith, o.short);
        }

-- the block of two, behind that of one
module _ {ws : List ℕ} {pair : ℕ} {way : Way} {at q q₂ n : ℕ} {one : Spot} {s s₁ : List ℕ} (behind : (at ≤ q) × (at < length ws → q ≡ at + 1))
    (w : Walks ws pair way q s n (put (take n s) 1 way.mask) (n + 1) (Continue one) s₁) (behind₂ : (one.next ≤ q₂) × (one.next < length ws → q₂ ≡ one.next + 1)) where
  pub two-falls : (t : ℕ) → measure way.depth (length ws) at 2 ≡ t → measure way.depth (length ws) q₂ 1 < t
  unfolding measure
  two-falls t e = omega (arith, behind.0, w.forward, behind₂.0)

  two-walked : {r : Stopped} {s₂ : List ℕ} → Walks ws pair way q₂ s₁ n (put (take n s₁) 2 way.mask) (n + 1) r s₂ → (x y z : Block) → Inside ws x → Inside ws y → (later : List Form)
      → forms_from ws at ≡ One ∷ block_forms x (Close ∷ Two ∷ block_forms y (Close ∷ Close ∷ block_forms z (Close ∷ later)))
      → n + size_in ws way (either x y z) ≤ length s → BlockWalked ws pair way (put (take n s₁) 2 way.mask) (n + 1) y (Close ∷ block_forms z (Close ∷ later)) r s₂
  unfolding size_with
  two-walked w₂ x y z v v' later e h =
      let o = one-walked behind w x y z v (Two ∷ block_forms y (Close ∷ Close ∷ block_forms z (Close ∷ later))) e h in
      let there = table-behind ws one.next q₂ Two (block_forms y (Close ∷ Close ∷ block_forms z (Close ∷ later))) behind₂.1 o.next in
      w₂.walked y (Close ∷ block_forms z (Close ∷ later)) there v' (omega (arith, w.buffer.size))

  first : (x y z : Block) → Inside ws x → (later : List Form) → forms_from ws at ≡ One ∷ block_forms x (Close ∷ later) → n + size_in ws way (either x y z) ≤ length s
      → walk_in ws pair way (take n s) (either x y z) ≡ and_then (walk_in ws pair way (put (take n s₁) 2 way.mask) y) (λ q. walk_in ws pair way q z)
  unfolding walk_with
  first x y z v later e h =
      let o = one-walked behind w x y z v later e h in
      ap (λ o. and_then o (λ q. and_then (walk_in ws pair way (put (take n s) 2 way.mask) y) (λ q. walk_in ws pair way q z))) o.outcome
      ∙ ap (λ p. and_then (walk_in ws pair way (put p 2 way.mask) y) (λ q. walk_in ws pair way q z)) (sym w.buffer.same)

  pub either-passes-second : {k : ℕ} {s₂ : List ℕ} → Walks ws pair way q₂ s₁ n (put (take n s₁) 2 way.mask) (n + 1) (Break k) s₂ → StatementWalks ws pair way Either at s n (Break k) s₂
  unfolding size_with
  either-passes-second {k} {s₂} w₂ = record {
    buffer = kept_back w.buffer w₂.buffer;
    forward = tt;
    walked = λ b later c e v. either-only (InPlan ws) later (forms_from ws at) (Passing ws pair way s n later (Break k) s₂) (go later) b v e;
  }
    where
      go : (later : List Form) (x y z : Block) → Inside ws x → Inside ws y → Inside ws z
          → forms_from ws at ≡ One ∷ block_forms x (Close ∷ Two ∷ block_forms y (Close ∷ Close ∷ block_forms z (Close ∷ later)))
          → Passing ws pair way s n later (Break k) s₂ (either x y z)
      go later x y z v v' v'' e h =
          let o = two-walked w₂ x y z v v' later e h in
          record {
            outcome = first x y z v (Two ∷ block_forms y (Close ∷ Close ∷ block_forms z (Close ∷ later))) e h ∙ ap (λ o. and_then o (λ q. walk_in ws pair way q z)) o.outcome;
            short = omega (arith, o.short);
          }

  pub either-passes : {two : Spot} {q₃ : ℕ} {s₂ : List ℕ} → Walks ws pair way q₂ s₁ n (put (take n s₁) 2 way.mask) (n + 1) (Continue two) s₂
      → (two.next ≤ q₃) × (two.next < length ws → q₃ ≡ two.next + 1) → StatementWalks ws pair way Either at s n (Continue (spot q₃ two.count)) s₂
  unfolding size_with
  either-passes {two} {q₃} {s₂} w₂ behind₃ = record {
    buffer = kept_back w.buffer w₂.buffer;
    forward = omega (arith, behind.0, w.forward, behind₂.0, w₂.forward, behind₃.0);
    walked = λ b later c e v.
        either-only (InPlan ws) later (forms_from ws at) (Passing ws pair way s n later (Continue (spot q₃ two.count)) s₂) (go later) b v e;
  }
    where
      go : (later : List Form) (x y z : Block) → Inside ws x → Inside ws y → Inside ws z
          → forms_from ws at ≡ One ∷ block_forms x (Close ∷ Two ∷ block_forms y (Close ∷ Close ∷ block_forms z (Close ∷ later)))
          → Passing ws pair way s n later (Continue (spot q₃ two.count)) s₂ (either x y z)
      go later x y z v v' v'' e h =
          let o = two-walked w₂ x y z v v' later e h in
          left_passed (record {
            rest = z;
            forms = table-behind ws two.next q₃ Close (block_forms z (Close ∷ later)) behind₃.1 o.next;
            inside = v'';
            same = first x y z v (Two ∷ block_forms y (Close ∷ Close ∷ block_forms z (Close ∷ later))) e h ∙ ap (λ o. and_then o (λ q. walk_in ws pair way q z)) o.outcome;
            short = omega (arith, o.short);
          })
