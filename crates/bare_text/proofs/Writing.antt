-- What is written into what is left of the output stands behind what was written before (`wrote-behind`). A writer's lines, with those that follow from its next place on,
-- are those from its first place on: so parts compose without a word about where a block ends. A block's own flag lies above those of the blocks around it, whatever these
-- are, until its closing form takes it away. In the shape of the needs of the writers.
use Prim.Native.Nat.{ℕ, ◌+◌, ◌-◌, ◌*◌, ◌<◌, ◌≤◌}
use native.Mathlib.Numerals.{add-one}
use native.Mathlib.Omega.{arith}
use mathlib.Core.Bool.{Bool, true, false, cond}
use mathlib.Core.Path.{◌≡◌, refl, sym, ap, subst, ◌∙◌}
use mathlib.Core.List.{List, [], ◌∷◌, ◌++◌, append-nil, append_assoc}
use lib.ListN.{length, take, drop, get_or, length-append, length-drop, length-map, drop_of_length-le}
use lib.Seq.{length-take-le, drop-cons}
use Rattle.laws.specs.Wrote.{Wrote}
use Rattle.laws.proofs.Folds.{map_at}
use Rattle.laws.proofs.Wrote.{wrote_none, wrote-more, wrote-length, part-wrote}
use Rattle.text.specs.declared.Form.{Form}
use Rattle.text.specs.Forms.{write, number_in, is_close}
use Rattle.text.specs.Lines.{text_of}
use Rattle.plan.specs.Table.{form_at, table_forms}
use Rattle.bare_text.specs.Writing.{form_line, SmallTable, bytes_from, RoomFor, opens_block, is_retained, line_if, innermost, enclosing, around, retained_forms}
use Rattle.bare_text.specs.Writing.{WroteLines, Precede, WroteItems}

-- ---- what is left of the output

module _ (l₀ l : List ℕ) (used : ℕ) (a : List ℕ) (w : Wrote l₀ l 0 used a) where
  used-within : used ≤ length l
  used-within = omega (arith, wrote-length l₀ l 0 used a w, w.fits)

  -- a part written there stands behind
  wrote-behind : (part : List ℕ) (n : ℕ) (b : List ℕ) → Wrote (take (length l - used) (drop used l)) part 0 n b
      → Wrote l₀ (take used l ++ (part ++ drop (length l - used) (drop used l))) 0 (used + n) (a ++ b)
  wrote-behind part n b v = wrote-more l₀ l _ 0 used (used + n) a b w (part-wrote l used n part b used-within v)

-- ---- the lines from a place of the table on

-- nothing yet
lines_none : (ws : List ℕ) (at : ℕ) (l : List ℕ) → at ≤ length ws → WroteLines ws at l l at 0
lines_none ws at l h = record { lines = []; wrote = wrote_none l 0 (omega arith); most = omega arith; later = omega arith; within = h }

module _ (ws : List ℕ) (at : ℕ) (l₀ l : List ℕ) (i used : ℕ) (w : WroteLines ws at l₀ l i used) where
  lines_more : (part : List ℕ) (next n : ℕ) → WroteLines ws i (take (length l - used) (drop used l)) part next n
      → WroteLines ws at l₀ (take used l ++ (part ++ drop (length l - used) (drop used l))) next (used + n)
  lines_more part next n v = record {
    lines = w.lines ++ v.lines;
    wrote = wrote-behind l₀ l used w.lines w.wrote part n v.lines v.wrote;
    most = omega (arith, w.most, v.most);
    later = omega (arith, w.later, v.later);
    within = v.within;
  }

-- what precedes what follows
precede-more : (straighten : Bool) (ws : List ℕ) (at i next : ℕ) (ks ks' ks'' : List Bool) (a b : List ℕ) → Precede straighten ws at ks i ks' a
    → Precede straighten ws i ks' next ks'' b → Precede straighten ws at ks next ks'' (a ++ b)
precede-more straighten ws at i next ks ks' ks'' a b x y = append_assoc a b (text_of (retained_forms straighten ks'' (drop next (table_forms ws)))) ∙ ap (λ z. a ++ z) y ∙ x

-- behind the last form none follows
none-follows : (straighten : Bool) (ks : List Bool) (ws : List ℕ) (i : ℕ) → length ws ≤ i → text_of (retained_forms straighten ks (drop i (table_forms ws))) ≡ []
unfolding text_of retained_forms
none-follows straighten ks ws i h =
    let m : length (table_forms ws) ≤ i = rw (length-map ws form_at) h in
    ap (λ fs. text_of (retained_forms straighten ks fs)) (drop_of_length-le (table_forms ws) {i = i} m)

-- ---- the items of a block

module _ (straighten enclosed : Bool) (ws : List ℕ) (at : ℕ) (l₀ : List ℕ) where
  pub items_none : at ≤ length ws → WroteItems straighten enclosed ws at l₀ l₀ at 0 false
  unfolding lines_none text_of
  items_none h = record { written = lines_none ws at l₀ h; precede = λ ks e. refl }

  module _ (l : List ℕ) (i used : ℕ) (w : WroteItems straighten enclosed ws at l₀ l i used false) where
    -- one more, which ends the block if `closed`
    module _ (part : List ℕ) (next n : ℕ) (closed : Bool) (v : WroteItems straighten enclosed ws i (take (length l - used) (drop used l)) part next n closed) where
      more : WroteItems straighten enclosed ws at l₀ (take used l ++ (part ++ drop (length l - used) (drop used l))) next (used + n) closed
      unfolding lines_more
      more = record {
        written = lines_more ws at l₀ l i used w.written part next n v.written;
        precede = λ ks e. precede-more straighten ws at i next ks ks (cond closed (enclosing ks) ks) w.written.lines v.written.lines (w.precede ks e) (v.precede ks e);
      }

      pub items_more : closed ≡ false → WroteItems straighten enclosed ws at l₀ (take used l ++ (part ++ drop (length l - used) (drop used l))) next (used + n) false
      items_more e = subst (WroteItems straighten enclosed ws at l₀ _ next (used + n)) e more

      pub items-closed : closed ≡ true → WroteItems straighten enclosed ws at l₀ (take used l ++ (part ++ drop (length l - used) (drop used l))) next (used + n) true
      items-closed e = subst (WroteItems straighten enclosed ws at l₀ _ next (used + n)) e more

    -- the table ends
    pub items_end : length ws ≤ i → WroteItems straighten enclosed ws at l₀ l i used true
    items_end h = record {
      written = w.written;
      precede = λ ks e.
          ap (λ x. w.written.lines ++ x) (none-follows straighten (enclosing ks) ws i h ∙ sym (none-follows straighten ks ws i h)) ∙ w.precede ks e;
    }

-- ---- all items

-- from the first form on, with no bracket around them
pub record WroteAll (straighten : Bool) (ws before after : List ℕ) (next used : ℕ) : Type 0 where
  pub written : WroteLines ws 0 before after next used
  pub precede : Precede straighten ws 0 [] next [] written.lines

module _ (straighten : Bool) (ws l₀ : List ℕ) where
  pub all_none : WroteAll straighten ws l₀ l₀ 0 0
  unfolding lines_none text_of
  all_none = record { written = lines_none ws 0 l₀ (omega arith); precede = refl }

  module _ (l : List ℕ) (i used : ℕ) (w : WroteAll straighten ws l₀ l i used) where
    -- a closing form where no bracket is open leaves none open
    module _ (part : List ℕ) (next n : ℕ) (closed : Bool) (v : WroteItems straighten true ws i (take (length l - used) (drop used l)) part next n closed) where
      pub all_more : WroteAll straighten ws l₀ (take used l ++ (part ++ drop (length l - used) (drop used l))) next (used + n)
      unfolding lines_more
      all_more = record {
        written = lines_more ws 0 l₀ l i used w.written part next n v.written;
        precede = precede-more straighten ws 0 i next [] [] [] w.written.lines v.written.lines w.precede (go closed (v.precede [] refl));
      }
        where
          go : (b : Bool) → Precede straighten ws i [] next (cond b [] []) v.written.lines → Precede straighten ws i [] next [] v.written.lines
          go true x = x
          go false x = x

    pub all-written : length ws ≤ i → Wrote l₀ l 0 used (text_of (retained_forms straighten [] (table_forms ws)))
    all-written h =
        let lines = w.written.lines in
        let e : lines ≡ text_of (retained_forms straighten [] (table_forms ws)) =
        sym (append-nil lines) ∙ ap (λ x. lines ++ x) (sym (none-follows straighten [] ws i h)) ∙ w.precede in
        subst (Wrote l₀ l 0 used) e w.written.wrote

-- ---- one item

forms-at : (ws : List ℕ) (at : ℕ) → at < length ws → drop at (table_forms ws) ≡ form_at (get_or ws at 0) ∷ drop (at + 1) (table_forms ws)
forms-at ws at h =
    let within : at < length (table_forms ws) = rw (length-map ws form_at) h in
    drop-cons (table_forms ws) at (form_at 0) within ∙ rw (map_at form_at ws at 0 (form_at 0) h, add-one)

module _ (ws : List ℕ) (at : ℕ) (f : Form) (h : at < length ws) (e : f ≡ form_at (get_or ws at 0)) where
  whole-bytes : length (form_line f) + bytes_from ws (at + 1) ≡ bytes_from ws at
  unfolding text_of form_line
  whole-bytes =
      let rest = text_of (drop (at + 1) (table_forms ws)) in
      let split : text_of (drop at (table_forms ws)) ≡ form_line f ++ text_of (drop (at + 1) (table_forms ws)) =
      ap text_of (forms-at ws at h) ∙ ap (λ g. text_of (g ∷ drop (at + 1) (table_forms ws))) (sym e) ∙ sym (append_assoc (write f) (10 ∷ []) rest) in
      sym (length-append (form_line f) rest) ∙ sym (ap length split)

  pub item_small : SmallTable ws → number_in f < 1000
  unfolding SmallTable
  item_small s = rw e (s at h)

  pub item_room : (l : List ℕ) → RoomFor ws at l → length (form_line f) ≤ length l
  item_room l r = omega (arith, whole-bytes)

  module _ (straighten enclosed s : Bool) (g : s ≡ is_retained straighten enclosed f) where
    same : (ks : List Bool) → innermost ks ≡ enclosed → is_retained straighten (innermost ks) f ≡ s
    same ks k = ap (λ o. is_retained straighten o f) k ∙ sym g

    -- the line, if it is retained, precedes those that follow
    line_first : (ks : List Bool) → innermost ks ≡ enclosed → Precede straighten ws at ks (at + 1) (around straighten ks f) (line_if s f)
    unfolding text_of form_line retained_forms
    line_first ks k =
        let fs = drop (at + 1) (table_forms ws) in
        let gs = retained_forms straighten (around straighten ks f) fs in
        let split : drop at (table_forms ws) ≡ f ∷ fs = forms-at ws at h ∙ ap (λ x. x ∷ fs) (sym e) in
        go s gs ∙ ap (λ b. text_of (cond b (f ∷ gs) gs)) (sym (same ks k)) ∙ ap (λ x. text_of (retained_forms straighten ks x)) (sym split)
      where
        go : (b : Bool) (gs : List Form) → line_if b f ++ text_of gs ≡ text_of (cond b (f ∷ gs) gs)
        go true gs = append_assoc (write f) (10 ∷ []) (text_of gs)
        go false gs = refl

    module _ (l₀ l : List ℕ) (n : ℕ) (w : Wrote l₀ l 0 n (line_if s f)) where
      no_longer : n ≤ length (form_line f)
      no_longer = omega (arith, w.place, go s)
        where
          go : (b : Bool) → length (line_if b f) ≤ length (form_line f)
          go true = omega arith
          go false = omega arith

      line-written : WroteLines ws at l₀ l (at + 1) n
      line-written = record { lines = line_if s f; wrote = w; most = omega (arith, no_longer, whole-bytes); later = omega arith; within = omega arith }

      pub item-line : (opens closed : Bool) → opens ≡ opens_block f → opens ≡ false → closed ≡ is_close f → WroteItems straighten enclosed ws at l₀ l (at + 1) n closed
      unfolding around line-written
      item-line opens closed o b c = record {
        written = line-written;
        precede = λ ks k.
            let after : around straighten ks f ≡ cond closed (enclosing ks) ks = rw (← o, b, c) in
            subst (λ ks'. Precede straighten ws at ks (at + 1) ks' (line_if s f)) after (line_first ks k);
      }

      -- from any place up to the line's end on there is room for the lines that are left
      pub item-left : (k : ℕ) → k ≤ n → RoomFor ws at l₀ → RoomFor ws (at + 1) (take (length l - k) (drop k l))
      item-left k b r = omega (
        arith,
        length-take-le (length l - k) (drop k l) (rw length-drop (omega arith)),
        length-drop k l,
        wrote-length l₀ l 0 n (line_if s f) w,
        no_longer,
        whole-bytes,
      )

      -- the block within, behind the line
      module _ (part : List ℕ) (next m : ℕ) (v : WroteItems straighten s ws (at + 1) (take (length l - n) (drop n l)) part next m true) where
        block_written : WroteLines ws at l₀ (take n l ++ (part ++ drop (length l - n) (drop n l))) next (n + m)
        block_written = lines_more ws at l₀ l (at + 1) n line-written part next m v.written

        pub item-block : (opens : Bool) → opens ≡ opens_block f → opens ≡ true
            → WroteItems straighten enclosed ws at l₀ (take n l ++ (part ++ drop (length l - n) (drop n l))) next (n + m) false
        unfolding around lines_more line-written block_written
        item-block opens o b = record {
          written = block_written;
          precede = λ ks k.
              let after : around straighten ks f ≡ s ∷ ks = rw (← o, b, same ks k) in
              let line = subst (λ ks'. Precede straighten ws at ks (at + 1) ks' (line_if s f)) after (line_first ks k) in
              precede-more straighten ws at (at + 1) next ks (s ∷ ks) ks (line_if s f) v.written.lines line (v.precede (s ∷ ks) refl);
        }

        pub item-later : at < next
        item-later = omega (arith, v.written.later)

-- ---- the measures: an item has twice the lines that are left, a block one more; a block within begins one place on

pub item_falls : (at n t : ℕ) → at < n → 2 * (n - at) ≡ t → 2 * (n - (at + 1)) + 1 < t
item_falls at n t h e = omega arith
