-- The refusals are those by the first rule broken: the plan's (`refused-exactly`), the verdict's, the pair list's, the tidy copy's and the crossings'. Rule by rule, those
-- from 4 on first over the forms (`forms-refuses`), then in the file.
use Prim.Native.Nat.{ℕ, ◌<◌, ◌≤◌}
use mathlib.Core.Bool.{Bool, true, false, not, cond, ◌||◌}
use mathlib.Core.List.{List, [], ◌∷◌, ◌++◌}
use mathlib.Core.Logic.{◌⊎◌, inl, inr, ◌↔◌}
use mathlib.Core.Option.{Option, none, some, none-ne-some, some-injective}
use mathlib.Core.Path.{◌≡◌, sym, ap, subst, ◌∙◌}
use lib.Dec.{ltb, leb, eqb}
use lib.ListN.{length}
use Rattle.limits.specs.Limits.{max_bytes, max_size, max_pair_words}
use Rattle.laws.proofs.Tests.{first-none}
use Rattle.text.specs.declared.Form.{Form}
use Rattle.text.specs.Lines.{refusal, forms_of, unreadable_line, IsText}
use Rattle.text.proofs.Splits.{readable-written, text-written}
use Rattle.semantics.specs.Plan.{LockPlan}
use Rattle.semantics.specs.Calls.{Recursive, Idle}
use Rattle.semantics.specs.CallMasks.{reaches, reachable}
use Rattle.semantics.specs.Sizes.{size_of, thread_sizes}
use Rattle.plan.specs.Grammar.{forms, plan_in}
use Rattle.plan.specs.Structure.{misplaced_form}
use Rattle.plan.specs.Limits.{past_limit_form, breaking_form}
use Rattle.plan.specs.Rules.{refused_at, refused_if, too_long, lines_refusal, references_refusal, grammar_refusal, proc_form, lowest_from, proc_refusal, recursive, idle, too_large}
use Rattle.plan.specs.Rules.{forms_refusal, plan_of, plan_refusal, too_few_entries, verdict_refusal, pairs_refusal, copy_refusal, are_no_two, no_two_threads, crossings_refusal}
use Rattle.plan.proofs.Trees.{plan_of-forms}
use Rattle.plan.proofs.Denotes.{accepted_denotes}
use Rattle.plan.proofs.FirstMisplaced.{structure_first}
use Rattle.plan.proofs.Kept.{kept, no_line}
use Rattle.plan.proofs.AcceptedTable.{accepted-rules}
use Rattle.demands.specs.Lines.{First, FormWhere}
use Rattle.demands.specs.Broken.{TooShort, TooLong, Unreadable, OfForms, FirstForm, Misplaced, PastLimit, HighLock, AbsentCallee, AbsentProc}
use Rattle.demands.specs.Broken.{OfPlan, LowestProc, TooLarge, TooFewEntries, AbsentRequest, NoTwoThreads}
use Rattle.demands.specs.Broken.{Rule, rule, form_rules, plan_rules, verdict_rules, pairs_rules, copy_rules, crossings_rules, FirstBroken}
use Rattle.demands.proofs.Order.{Names, RefusesBy, by_rule, then}
use Rattle.demands.proofs.InFile.{refuses-in_file}
use Rattle.demands.proofs.Firsts.{Decides, decides_or, below, at_most, equal}
use Rattle.demands.proofs.Readable.{readable_names}
use Rattle.demands.proofs.Limits.{limits-names, locks-names, calls-names, threads-names}
use Rattle.demands.proofs.Lowest.{lowest-names}
use Rattle.demands.proofs.ProcRules.{reaches_itself, no_thread_reaches}

-- a rule that names no line
flag_names : (b : Bool) (P : Type 0) → Decides b P → Names (cond b (some 0) none) (λ n. P × (n ≡ 0))
flag_names b P (inl x) n = rw x.0 (λ e. (x.1, sym (some-injective 0 n e)), λ y. ap {B = Option ℕ} some (sym y.1))
flag_names b P (inr x) n = rw x.0 (λ e. absurd (none-ne-some n e), λ y. absurd (x.1 y.0))

by_flag : (q : Rule) (b : Bool) → Names (cond b (some 0) none) q.broken → RefusesBy (q ∷ []) (refused_if q.number b)
by_flag q true h = by_rule q (some 0) h
by_flag q false h = by_rule q none h

-- ---- rule by rule

rule_1 : (needed lent : ℕ) → RefusesBy (rule 1 (TooShort needed lent) ∷ []) (refused_if 1 (ltb lent needed))
rule_1 needed lent = by_flag (rule 1 (TooShort needed lent)) (ltb lent needed) (flag_names (ltb lent needed) (lent < needed) (below lent needed))

module _ (text : List ℕ) where
  rule_2 : RefusesBy (rule 2 (TooLong text) ∷ []) (too_long text)
  unfolding too_long
  rule_2 = let b = ltb max_bytes (length text) in by_flag (rule 2 (TooLong text)) b (flag_names b (max_bytes < length text) (below max_bytes (length text)))

  rule_3 : RefusesBy (rule 3 (First (Unreadable text)) ∷ []) (refused_at 3 (unreadable_line text))
  rule_3 = by_rule (rule 3 (First (Unreadable text))) (unreadable_line text) (readable_names text)

  -- the forms that the text's lines spell are those that are read
  module _ (readable : unreadable_line text ≡ none) where
    same-forms : (fs : List Form) → IsText text fs → forms_of text ≡ fs
    same-forms fs w = ((text-written text fs).1 w).1

    of_forms : (number : ℕ) (P : List Form → ℕ → Type 0) (o : Option ℕ) → Names o (P (forms_of text))
        → RefusesBy (rule number (OfForms P text) ∷ []) (refused_at number o)
    of_forms number P o h = by_rule (rule number (OfForms P text)) o (λ n. (
      λ e. record { forms = forms_of text; written = readable-written text readable; broken = (h n).0 e },
      λ x. (h n).1 (subst (λ fs. P fs n) (sym (same-forms x.forms x.written)) x.broken),
    ))

    rule_4 : RefusesBy (rule 4 (OfForms Misplaced text) ∷ []) (refused_at 4 (misplaced_form (forms_of text)))
    rule_4 = of_forms 4 Misplaced (misplaced_form (forms_of text)) (structure_first (forms_of text))

    -- of rules 5 to 8
    by_form : (number : ℕ) (P : List Form → List Form → Form → Type 0) (o : Option ℕ) → Names o (First (FormWhere (P (forms_of text)) (forms_of text)))
        → RefusesBy (rule number (FirstForm P text) ∷ []) (refused_at number o)
    by_form number P o h = of_forms number (λ fs. First (FormWhere (P fs) fs)) o h

  -- the plan whose forms the text's lines spell is the one that is read
  module _ (readable : unreadable_line text ≡ none) (formed : grammar_refusal (forms_of text) ≡ none) where
    structured : misplaced_form (forms_of text) ≡ none
    structured = (kept (forms_of text) formed).0

    plan : LockPlan
    plan = plan_in (forms_of text)

    of_plan : (P : LockPlan → ℕ → Type 0) (o : Option ℕ) → Names o (P plan) → Names o (OfPlan P text)
    unfolding plan
    of_plan P o h n =
        let d = accepted_denotes (forms_of text) structured in (
          λ e. record { plan = plan; grammatical = d.0; written = subst (IsText text) d.1 (readable-written text readable); broken = (h n).0 e },
          λ y.
              let same : plan ≡ y.plan = ap plan_in (same-forms readable (forms y.plan) y.written) ∙ plan_of-forms y.plan y.grammatical in
              (h n).1 (subst (λ q. P q n) (sym same) y.broken),
        )

    by_proc : (number : ℕ) (P : LockPlan → ℕ → Type 0) (test : ℕ → Bool) → ((p : ℕ) → p < length plan.procs → Decides (test p) (P plan p))
        → RefusesBy (rule number (OfPlan (LowestProc P) text) ∷ []) (proc_refusal number (forms_of text) test)
    unfolding plan proc_refusal
    by_proc number P test decide =
        let fs = forms_of text in
        let o = proc_form fs (lowest_from test 0 (length plan.procs)) in
        by_rule (rule number (OfPlan (LowestProc P) text)) o (of_plan (LowestProc P) o (lowest-names fs (accepted_denotes fs structured).1 test P decide))

    rule_12 : RefusesBy (rule 12 (OfPlan (LowestProc (λ plan. Recursive plan.procs)) text) ∷ []) (recursive (forms_of text))
    unfolding recursive plan
    rule_12 = by_proc 12 (λ plan. Recursive plan.procs) (λ p. reaches plan.procs p p) (λ p h. reaches_itself plan.procs p)

    rule_13 : RefusesBy (rule 13 (OfPlan (LowestProc Idle) text) ∷ []) (idle (forms_of text))
    unfolding idle plan
    rule_13 = by_proc 13 Idle (λ p. not (reachable plan p)) (λ p h. no_thread_reaches plan p)

    rule_9 : RefusesBy (rule 9 (OfPlan (LowestProc TooLarge) text) ∷ []) (too_large (forms_of text))
    unfolding too_large plan
    rule_9 = by_proc 9 TooLarge (λ p. ltb max_size (size_of plan.procs p)) (λ p h. below max_size (size_of plan.procs p))

    -- that names no line
    of_plan_if : (number : ℕ) (P : LockPlan → Type 0) (b : Bool) → Decides b (P plan) → RefusesBy (rule number (OfPlan (λ q n. P q × (n ≡ 0)) text) ∷ []) (refused_if number b)
    of_plan_if number P b d =
        by_flag (rule number (OfPlan (λ q n. P q × (n ≡ 0)) text)) b (of_plan (λ q n. P q × (n ≡ 0)) (cond b (some 0) none) (flag_names b (P plan) d))

    rule_1_entries : (lent : ℕ) → RefusesBy (rule 1 (OfPlan (TooFewEntries lent) text) ∷ []) (too_few_entries (plan_of text) lent)
    unfolding plan_of plan too_few_entries
    rule_1_entries lent = of_plan_if 1 (λ q. lent < thread_sizes q) (ltb lent (thread_sizes plan)) (below lent (thread_sizes plan))

    rule_11 : (p : ℕ) → RefusesBy (rule 11 (OfPlan (AbsentRequest p) text) ∷ []) (refused_if 11 (leb (length (plan_of text).procs) p))
    unfolding plan_of plan
    rule_11 p = of_plan_if 11 (λ q. length q.procs ≤ p) (leb (length plan.procs) p) (at_most (length plan.procs) p)

    rule_14 : (t u : ℕ) → RefusesBy (rule 14 (OfPlan (NoTwoThreads t u) text) ∷ []) (no_two_threads (plan_of text) t u)
    unfolding plan_of plan are_no_two
    rule_14 t u =
        let n = length plan.threads in
        of_plan_if 14 (λ q. (length q.threads ≤ t) ⊎ (length q.threads ≤ u) ⊎ (t ≡ u)) (are_no_two n t u)
        (decides_or (leb n t) (leb n u || eqb t u) _ _ (at_most n t) (decides_or (leb n u) (eqb t u) _ _ (at_most n u) (equal t u)))

-- ---- the rules, one after the other

module _ (text : List ℕ) where
  module _ (readable : unreadable_line text ≡ none) where
    forms-refuses : RefusesBy (form_rules text) (forms_refusal (forms_of text))
    unfolding form_rules forms_refusal grammar_refusal references_refusal
    forms-refuses =
        let fs = forms_of text in
        then
        (then (rule_4 text readable)
        (λ e. then (by_form text readable 5 (λ fs before f. PastLimit (before ++ f ∷ [])) (past_limit_form fs) (limits-names fs (no_line 4 (misplaced_form fs) e)))
        (λ _. then (by_form text readable 6 (λ fs before f. HighLock f) (breaking_form 6 fs) (locks-names fs))
        (λ _. then (by_form text readable 7 (λ fs before f. AbsentCallee fs f) (breaking_form 7 fs) (calls-names fs))
        (λ _. by_form text readable 8 (λ fs before f. AbsentProc fs f) (breaking_form 8 fs) (threads-names fs))))))
        (λ formed. then (then (rule_12 text readable formed) (λ _. rule_13 text readable formed)) (λ _. rule_9 text readable formed))

  pub plan-refuses : RefusesBy (plan_rules text) (plan_refusal text)
  unfolding plan_rules plan_refusal lines_refusal
  plan-refuses =
      then (then (rule_2 text) (λ _. rule_3 text))
      (λ e. refuses-in_file text (forms-refuses (no_line 3 (unreadable_line text) (first-none (too_long text) _ e).1)))

  pub verdict-refuses : (lent : ℕ) → RefusesBy (verdict_rules text lent) (verdict_refusal text lent)
  unfolding verdict_rules verdict_refusal
  verdict-refuses lent = then plan-refuses (λ e. let r = accepted-rules text e in rule_1_entries text r.readable r.formed lent)

  pub pairs-refuses : (p lent : ℕ) → RefusesBy (pairs_rules text p lent) (pairs_refusal text p lent)
  unfolding pairs_rules pairs_refusal
  pairs-refuses p lent = then (rule_1 max_pair_words lent) (λ _. then plan-refuses (λ e. let r = accepted-rules text e in rule_11 text r.readable r.formed p))

  pub copy-refuses : (lent : ℕ) → RefusesBy (copy_rules text lent) (copy_refusal text lent)
  unfolding copy_rules copy_refusal
  copy-refuses lent = then (rule_1 max_bytes lent) (λ _. plan-refuses)

  pub crossings-refuses : (t u : ℕ) → RefusesBy (crossings_rules text t u) (crossings_refusal text t u)
  unfolding crossings_rules crossings_refusal
  crossings-refuses t u = then plan-refuses (λ e. let r = accepted-rules text e in rule_14 text r.readable r.formed t u)

-- (r, l) is the refusal exactly when rule r is the first one broken, at line l
module _ (text : List ℕ) (r l : ℕ) where
  pub refused-exactly : (plan_refusal text ≡ some (refusal r l)) ↔ FirstBroken (plan_rules text) r l
  refused-exactly = (plan-refuses text).refused r l

  pub verdict-refused-exactly : (lent : ℕ) → (verdict_refusal text lent ≡ some (refusal r l)) ↔ FirstBroken (verdict_rules text lent) r l
  verdict-refused-exactly lent = (verdict-refuses text lent).refused r l

  pub pairs-refused-exactly : (p lent : ℕ) → (pairs_refusal text p lent ≡ some (refusal r l)) ↔ FirstBroken (pairs_rules text p lent) r l
  pairs-refused-exactly p lent = (pairs-refuses text p lent).refused r l

  pub copy-refused-exactly : (lent : ℕ) → (copy_refusal text lent ≡ some (refusal r l)) ↔ FirstBroken (copy_rules text lent) r l
  copy-refused-exactly lent = (copy-refuses text lent).refused r l

  pub crossings-refused-exactly : (t u : ℕ) → (crossings_refusal text t u ≡ some (refusal r l)) ↔ FirstBroken (crossings_rules text t u) r l
  crossings-refused-exactly t u = (crossings-refuses text t u).refused r l
