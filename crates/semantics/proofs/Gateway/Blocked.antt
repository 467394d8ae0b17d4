-- Source 000, Proposition 2.3. Only to begin a hold from whose claim another thread excludes is refused (`permitted_or_blocked`). So a set of threads is
-- stuck just if each of them is blocked by another of them (`blocked-stuck`, `stuck-blocked`).
use Prim.Native.Nat.{ℕ, ◌≤◌, ◌<◌}
use mathlib.Core.List.{List}
use mathlib.Core.Bool.{Bool}
use mathlib.Core.Logic.{◌⊎◌, inl, inr, ⊎_elim, ◌≢◌}
use mathlib.Core.Option.{Option, none, some, some-ne-none}
use mathlib.Core.Path.{◌≡◌, refl, sym, ◌∙◌}
use native.Mathlib.Omega.{arith}
use lib.ListN.{length, get_or, set}
use lib.Dec.{T}
use Rattle.laws.proofs.Tests.{lt_or_le}
use Rattle.semantics.specs.Plan.{Block, hold, end, ◌⨾◌, body_in, Plain}
use Rattle.semantics.specs.Run.{ThreadState, thread, up, move, apart, step_in, nth, counts}
use Rattle.semantics.specs.Stuck.{Stuck}
use Rattle.semantics.proofs.Thread.Transitions.{Transition, move_transition}
use Rattle.semantics.proofs.Thread.Balance.{Balanced, positive_by_begin, begin_positive}
use Rattle.semantics.proofs.Gateway.Compatible.{HasClaim, Excludes, compatible_or_contended, compatible_not_contended, excluded-not-held}
use Rattle.semantics.proofs.Gateway.Apart.{Apart, Clash, apart_or_clash, clash-not-apart}
use Rattle.semantics.proofs.Gateway.Steps.{thread_at-nth, thread_at-some, move_of, step-some, step-none, step_cannot}

-- the counts of each thread are those that its remainder settles
abbrev pub BalancedAll : List ThreadState → Type 0
BalancedAll ts = (t : ℕ) → t < length ts → Balanced (nth ts t).rest (nth ts t).count

-- thread t is about to begin a hold of a claim from which another thread of S excludes it
pub record Blocked (S : ℕ → Bool) (ts : List ThreadState) (t : ℕ) : Type 0 where
  pub claim : ℕ
  pub inside : Block
  pub following : Block
  pub stands : (nth ts t).rest ≡ hold claim inside following
  pub other : ℕ
  pub differs : other ≢ t
  pub member : T (S other)
  pub theirs : Excludes (counts ts other) claim

module _ (ps : List Block) (bodies : (p : ℕ) → Plain (body_in ps p)) (S : ℕ → Bool) (ts : List ThreadState) (kept : BalancedAll ts) where
  -- a step of a thread in S is permitted, the others forgotten, or the thread is blocked
  pub permitted_or_blocked : Apart S ts → (t c : ℕ) (y : ThreadState) → t < length ts → T (S t) → move_of ps ts t c ≡ some y
      → T (apart S (set ts t y)) ⊎ Blocked S ts t
  permitted_or_blocked a t c y b s m =
      ⊎_elim inl
      (λ (r : Clash S ts t y).
      ⊎_elim (λ k. absurd (r.against k))
      (λ (q : (l : ℕ) × HasClaim y.count l × Excludes (counts ts r.other) l).
      let apart = a t r.other (λ e. r.differs (sym e)) s r.member in
      let z = excluded-not-held (counts ts t) (counts ts r.other) apart q.0 q.2 in
      let u = positive_by_begin ps bodies (move_transition ps c (nth ts t).rest (nth ts t).count y m) (kept t b) q.0 z q.1 in
      inr (record { claim = q.0; inside = u.0; following = u.1; stands = u.2; other = r.other; differs = r.differs; member = r.member; theirs = q.2 }))
      (compatible_or_contended y.count (counts ts r.other)))
      (apart_or_clash S ts t y b a)

  pub blocked-able : (t : ℕ) → Blocked S ts t → (y : ThreadState) × (move_of ps ts t 0 ≡ some y)
  unfolding move
  blocked-able t w = (thread (w.inside ⨾ end w.claim w.following) (up w.claim (nth ts t).count), rw w.stands refl)

  -- after any step of a blocked thread it would have the claim
  blocked-holds : (t c : ℕ) (y : ThreadState) → t < length ts → (w : Blocked S ts t) → move_of ps ts t c ≡ some y → 0 < get_or y.count w.claim 0
  blocked-holds t c y b w m =
      let v : Transition ps c (hold w.claim w.inside w.following) (nth ts t).count y.rest y.count =
      rw w.stands at (move_transition ps c (nth ts t).rest (nth ts t).count y m) in
      begin_positive ps bodies v (rw w.stands at (kept t b))

  pub blocked-barred : (t c : ℕ) → t < length ts → T (S t) → Blocked S ts t → step_in S ps ts t c ≡ none
  blocked-barred t c b s w = go (move_of ps ts t c) refl
    where
      go : (o : Option ThreadState) → move_of ps ts t c ≡ o → step_in S ps ts t c ≡ none
      go none e = step_cannot S ps ts t c b e
      go (some y) e =
          step-none S ps ts t c y b e
          (clash-not-apart S ts t y b s (record {
            other = w.other;
            differs = w.differs;
            member = w.member;
            against = λ k. compatible_not_contended y.count (counts ts w.other) k w.claim (blocked-holds t c y b w e) w.theirs;
          }))

  in_order : (t u : ℕ) → u ≢ t → T (S t) → T (S u) → (t : ℕ) × (u : ℕ) × (t < u) × T (S t) × T (S u)
  in_order t u d s r = ⊎_elim (λ (b : t < u). (t, u, b, s, r)) (λ (b : u ≤ t). (u, t, omega arith, r, s)) (lt_or_le t u)

  -- threads each of which is blocked by another of them are stuck
  pub blocked-stuck : ((t : ℕ) → T (S t) → t < length ts) → ((t : ℕ) → T (S t) → Blocked S ts t) → (t : ℕ) → T (S t) → Stuck ps ts S
  blocked-stuck pr w t s = record {
    two = in_order t (w t s).other (w t s).differs s (w t s).member;
    able = λ t s. let m = blocked-able t (w t s) in (0, nth ts t, m.0, thread_at-nth ts t (pr t s), m.1);
    barred = λ t c s. blocked-barred t c (pr t s) s (w t s);
  }

  pub stuck-blocked : Apart S ts → Stuck ps ts S → (t : ℕ) → T (S t) → Blocked S ts t
  stuck-blocked a st t s =
      let m = st.able t s in
      let r = thread_at-some ts t m.1 m.3 in
      let e : move_of ps ts t m.0 ≡ some m.2 = rw r.1 m.4 in
      ⊎_elim
      (λ p. absurd (some-ne-none (set ts t m.2) (sym (step-some S ps ts t m.0 m.2 r.0 e p) ∙ st.barred t m.0 s)))
      (λ w. w)
      (permitted_or_blocked a t m.0 m.2 r.0 s e)

pub stuck-present : {ps : List Block} {ts : List ThreadState} {S : ℕ → Bool} → Stuck ps ts S → (t : ℕ) → T (S t) → t < length ts
stuck-present {ts = ts} st t s = let m = st.able t s in (thread_at-some ts t m.1 m.3).0
