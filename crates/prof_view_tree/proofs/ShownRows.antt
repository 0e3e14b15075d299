-- Rows of which the hidden steps are left out
use Rattle.std.proofs.Common.{◌≡◌, ℕ, ◌+◌, ◌<◌, Bool, true, false, cond, List, [], ◌∷◌, ◌++◌, length, Option, Some, None, inl, inr, sym, ap, ◌∙◌, subst, refl, arith, get_or}
use Rattle.std.specs.Prelude.{slice_get, IfSome}
use Rattle.std.specs.Option.{option_and_then}
use Rattle.std.proofs.lemmas.List.{append-nil, get_or_append_left}
use Rattle.std.proofs.lemmas.List.Elements.{All-nil, All-push, filter-append}
use Rattle.std.proofs.Math.Seq.{get_or-append_seam}
use Rattle.prof_tables.specs.declared.rows.StackRow.{StackRow}
use Rattle.prof_tables.specs.declared.rows.Step.{Step}
use Rattle.prof_tables.specs.Threads.{SharedTables}
use Rattle.prof_tables.specs.Paths.{path, step_of, PrefixesBelow}
use Rattle.prof_tables.proofs.PathLemmas.{path-row}
use Rattle.prof_tables.proofs.RowLemmas.{PrefixesBelow-push}
use Rattle.prof_path.specs.declared.transform.Implementation.{Implementation}
use Rattle.prof_path.specs.Shown.{shown, seen}
use Rattle.prof_layer.specs.Rewritten.{IsRowOf, entry_at}
use Rattle.prof_layer.proofs.RowLaws.{path-none, IsRowOf-append, entry-below, row-below}
use Rattle.prof_view_tree.specs.Showing.{AreShown, rows_with, out_with}
use Rattle.prof_tree.proofs.Walking.{in_or_last, length-snoc}

-- an item in front, and the last
pub kept_at : {A : Type 0} (xs : List A) (x d : A) (q : ℕ) → q < length xs → get_or (xs ++ x ∷ []) q d ≡ get_or xs q d
kept_at xs x d q h = get_or_append_left xs (x ∷ []) d q h

pub last_at : {A : Type 0} (xs : List A) (x d : A) → get_or (xs ++ x ∷ []) (length xs) d ≡ x
last_at xs x d = get_or-append_seam xs x [] d

module _ (t : SharedTables) (i : Implementation) where
  seen-step : (x : List Step) (s : Step) → seen t i (x ++ s ∷ []) ≡ cond (shown t i s.func) (seen t i x ++ s ∷ []) (seen t i x)
  seen-step x s = filter-append (λ (s : Step). shown t i s.func) x (s ∷ []) ∙ go (shown t i s.func)
    where
      go : (b : Bool) → seen t i x ++ cond b (s ∷ []) [] ≡ cond b (seen t i x ++ s ∷ []) (seen t i x)
      go true = refl
      go false = append-nil (seen t i x)

  pub shown_first : (rows : List StackRow) → AreShown t i rows 0 [] []
  shown_first rows = record {
    count = refl;
    few = omega arith;
    below = λ k row e. cc;
    funcs = All-nil (λ (row : StackRow). row.func < length t.funcs + length t.resources);
    each = λ r h. absurd (omega arith);
  }

  module _ (rows : List StackRow) (n : ℕ) (kept : List StackRow) (outs : List (Option ℕ)) (row : StackRow) (below : PrefixesBelow rows) (here : slice_get rows n ≡ Some row) (fits : row.func < length t.funcs + length t.resources) (s : AreShown t i rows n kept outs) where
    abbrev above : Option ℕ
    above = option_and_then (λ p. get_or outs p None) row.prefix

    pub prefix_in : IfSome row.prefix (λ p. p < length outs)
    prefix_in = by row.prefix (below n row here)
      where
        by : (o : Option ℕ) → IfSome o (λ p. p < n) → IfSome o (λ p. p < length outs)
        by None h = tt
        by (Some p) h = omega (arith, s.count)

    -- the path of the prefix
    above_is : IsRowOf kept above (seen t i (path rows row.prefix))
    above_is = by row.prefix (below n row here)
      where
        by : (o : Option ℕ) → IfSome o (λ p. p < n) → IsRowOf kept (option_and_then (λ p. get_or outs p None) o) (seen t i (path rows o))
        by None h = ap (seen t i) (path-none rows)
        by (Some p) h = s.each p h

    path_is : seen t i (path rows (Some n)) ≡ cond (shown t i row.func) (seen t i (path rows row.prefix) ++ step_of row ∷ []) (seen t i (path rows row.prefix))
    path_is = ap (seen t i) (path-row rows n row below here) ∙ seen-step (path rows row.prefix) (step_of row)

    more : (b : Bool) → shown t i row.func ≡ b → AreShown t i rows (n + 1) (rows_with b above row kept) (outs ++ out_with b above (length kept) ∷ [])
    more false e = record {
      count = length-snoc outs above ∙ ap (λ k. k + 1) s.count;
      few = omega (arith, s.few);
      below = s.below;
      funcs = s.funcs;
      each = λ r h. elim (in_or_last r n h) [
        | inl k ↦ subst (λ o. IsRowOf kept o (seen t i (path rows (Some r)))) (sym (kept_at outs above None r (omega (arith, s.count)))) (s.each r k)
        | inr same ↦ subst (λ q. IsRowOf kept (entry_at (outs ++ above ∷ []) q) (seen t i (path rows (Some q)))) (sym same)
            (subst (λ q. IsRowOf kept (entry_at (outs ++ above ∷ []) q) (seen t i (path rows (Some n)))) s.count
            (subst (λ o. IsRowOf kept o (seen t i (path rows (Some n)))) (sym (last_at outs above None))
            (subst (IsRowOf kept above) (sym (path_is ∙ ap (λ b. cond b (seen t i (path rows row.prefix) ++ step_of row ∷ []) (seen t i (path rows row.prefix))) e)) above_is)))
      ];
    }
    more true e =
        let new : StackRow = record row { prefix = above } in
        let out : Option ℕ = Some (length kept) in
        record {
          count = length-snoc outs out ∙ ap (λ k. k + 1) s.count;
          few = omega (arith, s.few, length-snoc kept new);
          below = PrefixesBelow-push kept new s.below (entry-below kept above (seen t i (path rows row.prefix)) above_is);
          funcs = All-push (λ (row : StackRow). row.func < length t.funcs + length t.resources) kept new s.funcs fits;
          each = λ r h. elim (in_or_last r n h) [
            | inl k ↦ subst (λ o. IsRowOf (kept ++ new ∷ []) o (seen t i (path rows (Some r)))) (sym (kept_at outs out None r (omega (arith, s.count))))
                (IsRowOf-append kept (new ∷ []) (entry_at outs r) (seen t i (path rows (Some r))) s.below (s.each r k))
            | inr same ↦ subst (λ q. IsRowOf (kept ++ new ∷ []) (entry_at (outs ++ out ∷ []) q) (seen t i (path rows (Some q)))) (sym same)
                (subst (λ q. IsRowOf (kept ++ new ∷ []) (entry_at (outs ++ out ∷ []) q) (seen t i (path rows (Some n)))) s.count
                (subst (λ o. IsRowOf (kept ++ new ∷ []) o (seen t i (path rows (Some n)))) (sym (last_at outs out None))
                (subst (IsRowOf (kept ++ new ∷ []) out) (sym (path_is ∙ ap (λ b. cond b (seen t i (path rows row.prefix) ++ step_of row ∷ []) (seen t i (path rows row.prefix))) e))
                (row-below kept new (seen t i (path rows row.prefix)) s.below above_is))))
          ];
        }

    pub shown_more : (is_shown : Bool) (o : Option ℕ) (kept' : List StackRow) (outs' : List (Option ℕ)) → is_shown ≡ shown t i row.func → o ≡ above
        → kept' ≡ rows_with is_shown o row kept → outs' ≡ outs ++ out_with is_shown o (length kept) ∷ [] → AreShown t i rows (n + 1) kept' outs'
    shown_more is_shown o kept' outs' test above_same rows_are outs_are =
        subst (λ l. AreShown t i rows (n + 1) l outs') (sym (rows_are ∙ ap (λ b. rows_with b o row kept) test ∙ ap (λ o. rows_with (shown t i row.func) o row kept) above_same))
        (subst (AreShown t i rows (n + 1) (rows_with (shown t i row.func) above row kept)) (sym (outs_are ∙ ap (λ b. outs ++ out_with b o (length kept) ∷ []) test ∙ ap (λ o. outs ++ out_with (shown t i row.func) o (length kept) ∷ []) above_same))
        (more (shown t i row.func) refl))
