-- The lines of the views.
use Rattle.std.proofs.Common.{◌≡◌, ℕ, ◌+◌, ◌-◌, ◌<◌, ◌≤◌, Bool, true, false, List, [], ◌∷◌, ◌++◌, length, length-append, zero, suc, refl, ap, ◌∙◌, arith, inl, inr}
use Rattle.std.specs.Prelude.{Some, ◌⊎◌, nat_lt, codes, Err}
use Rattle.std.proofs.lemmas.Bool.Decides.{nat_tests}
use Rattle.std.proofs.lemmas.Str.{IsUtf8-nil}
use Rattle.prof_spell.specs.Spelling.{Language, first, Apart, IsStuck, IsTaken, Reads, Splits}
use Rattle.prof_spell.specs.Readings.{Readable}
use Rattle.prof_spell.specs.declared.cursor.Stop.{Stop}
use Rattle.prof_spell.specs.Pieces.{EachFits, literal}
use Rattle.prof_spell.specs.Sequences.{followed_by}
use Rattle.prof_spell.specs.Chains.{chain_text, after, MayCome, IsWhole, chains}
use Rattle.prof_spell.proofs.Words.{apart_any, splits_literal}
use Rattle.prof_spell.proofs.Parts.{Built, splits_built, err_built, taken_built}
use Rattle.prof_spell.proofs.Chained.{Linked, Came, splits_chain, err_item, stuck_end, taken_chain}
use Rattle.prof_spell.proofs.Readings.{reading_built, reading_chain, reading_literal, Next, item, none}
use Rattle.prof_spell.proofs.SequenceLemmas.{Meets, err_front, err_back, taken_pair, splits_pair, reading_pair}
use Rattle.prof_path.specs.Views.{ViewLists}
use Rattle.prof_address.specs.declared.kind.Form.{Form}
use Rattle.prof_address.specs.Parts.{fresh}
use Rattle.prof_address.specs.Views.{views, view_text, IsWrittenView}
use Rattle.prof_address.proofs.ViewLemmas.{splits_views, reading_view}
use Rattle.prof_keep.specs.Saved.{line_text, lines_text}
use Rattle.prof_keep.specs.Reading.{lines, line_chain}

-- ---- one line

abbrev pub line_mark : Language (Unit {0})
line_mark = literal (codes "\n")

abbrev pub ended_views : Form → Language (ViewLists × Unit {0})
ended_views form = followed_by (views form) (λ v. line_mark)

abbrev pub line_parts : Form → Language (Unit {0} × (ViewLists × Unit {0}))
line_parts form = followed_by (literal (codes "view ")) (λ u. ended_views form)

pub end_meets : (form : Form) → Meets (views form) (λ v. line_mark)
end_meets form = record { some = λ v f. (tt, tt); apart = λ v u m f g a. refl }

fresh_written : (form : Form) → IsWrittenView form (fresh 0)
fresh_written form = record { thread = omega arith; ranges = tt; transforms = tt; search = IsUtf8-nil }

pub view_meets : (form : Form) → Meets (literal (codes "view ")) (λ u. ended_views form)
view_meets form = record { some = λ u f. ((fresh 0, tt), (fresh_written form, tt)); apart = λ u p m f g a. apart_any ((ended_views form).text p ++ m) }

abbrev pub line_of : Unit {0} × (ViewLists × Unit {0}) → ViewLists
line_of p = p.1.0

pub line_built : (form : Form) → Built (lines form) (line_parts form) line_of
line_built form = record {
  into = λ p f. (f.1.0, refl);
  from = λ v f. ((tt, (v, tt)), refl, (tt, (f, tt)), λ m a. a);
}

splits_line_parts : (form : Form) → Splits (line_parts form)
splits_line_parts form = splits_pair (literal (codes "view ")) (λ u. ended_views form) (view_meets form) (splits_literal (codes "view "))
    (λ u f. splits_pair (views form) (λ v. line_mark) (end_meets form) (splits_views form) (λ v g. splits_literal (codes "\n")))

splits_lines : (form : Form) → Splits (lines form)
splits_lines form = splits_built (lines form) (line_parts form) line_of (line_built form) (splits_line_parts form)

reading_line : (form : Form) → Readable (lines form)
reading_line form = reading_built (lines form) (line_parts form) line_of (line_built form) (λ p left f a. apart_any left)
    (reading_pair (literal (codes "view ")) (λ u. ended_views form) (view_meets form) (splits_literal (codes "view ")) (reading_literal (codes "view "))
    (λ u f. reading_pair (views form) (λ v. line_mark) (end_meets form) (splits_views form) (reading_view form) (λ v g. reading_literal (codes "\n"))))

pub line_err_word : (form : Form) (bytes left : List ℕ) (stop : Stop) → Reads (literal (codes "view ")) bytes (Err stop) left → Reads (lines form) bytes (Err stop) left
line_err_word form bytes left stop s = err_built (lines form) (line_parts form) line_of bytes left stop (line_built form)
    (err_front (literal (codes "view ")) (λ u. ended_views form) bytes left stop (view_meets form) s)

pub line_err_view : (form : Form) (bytes a left : List ℕ) (stop : Stop) → IsTaken (literal (codes "view ")) bytes tt a → Reads (views form) a (Err stop) left → Reads (lines form) bytes (Err stop) left
line_err_view form bytes a left stop t s = err_built (lines form) (line_parts form) line_of bytes left stop (line_built form)
    (err_back (literal (codes "view ")) (λ u. ended_views form) bytes a left tt stop (view_meets form) (splits_literal (codes "view ")) t
    (err_front (views form) (λ v. line_mark) a left stop (end_meets form) s))

pub line_err_end : (form : Form) (bytes a b left : List ℕ) (v : ViewLists) (stop : Stop) → IsTaken (literal (codes "view ")) bytes tt a → IsTaken (views form) a v b → Reads line_mark b (Err stop) left → Reads (lines form) bytes (Err stop) left
line_err_end form bytes a b left v stop t u s = err_built (lines form) (line_parts form) line_of bytes left stop (line_built form)
    (err_back (literal (codes "view ")) (λ w. ended_views form) bytes a left tt stop (view_meets form) (splits_literal (codes "view ")) t
    (err_back (views form) (λ w. line_mark) a b left v stop (end_meets form) (splits_views form) u s))

pub line_taken : (form : Form) (bytes a b left : List ℕ) (v : ViewLists) → IsTaken (literal (codes "view ")) bytes tt a → IsTaken (views form) a v b → IsTaken line_mark b tt left → IsTaken (lines form) bytes v left
line_taken form bytes a b left v t u w = taken_built (lines form) (line_parts form) line_of bytes left (tt, (v, tt)) (line_built form) (λ k. apart_any left)
    (taken_pair (literal (codes "view ")) (λ k. ended_views form) bytes a left tt (v, tt) (view_meets form) t
    (taken_pair (views form) (λ k. line_mark) a b left v tt (end_meets form) u w))

-- ---- the lines

module _ (form : Form) (place : ℕ) (small : place < 100) where
  pub item_built : (k : ℕ) → k < 100 → Built ((line_chain form place).items k) (lines form) (λ v. v)
  item_built k l = record {
    into = λ v f. ((f, l), refl);
    from = λ v f. (v, refl, f.0, λ m a. a);
  }

  copies : ℕ → List ViewLists
  copies zero = []
  copies (suc n) = fresh 0 ∷ copies n

  copies_come : (n k : ℕ) → n ≡ (place + 1) - k → MayCome (line_chain form place) k (copies n)
  unfolding copies
  copies_come zero k e = tt
  copies_come (suc n) k e = ((fresh_written form, omega arith), copies_come n (k + 1) (omega arith))

  pub after_lines : (k : ℕ) (vs : List ViewLists) → after (line_chain form place) k vs ≡ k + length vs
  after_lines k [] = omega arith
  after_lines k (v ∷ vs) = let e = after_lines (k + 1) vs in omega arith

  copies_length : (n : ℕ) → length (copies n) ≡ n
  unfolding copies
  copies_length zero = refl
  copies_length (suc n) = ap suc (copies_length n)

  copies_end : (k : ℕ) → nat_lt place (after (line_chain form place) k (copies ((place + 1) - k))) ≡ true
  copies_end k =
      let e = after_lines k (copies ((place + 1) - k)) in
      let f = copies_length ((place + 1) - k) in
      let g : place < after (line_chain form place) k (copies ((place + 1) - k)) = omega arith in
      grind (arith, nat_tests)

  line_first : (v : ViewLists) → (t : List ℕ) × (line_text v ≡ 118 ∷ t)
  line_first v = (codes "iew " ++ (view_text v ++ codes "\n"), refl)

  pub linked_lines : Linked (line_chain form place)
  linked_lines = record {
    splits = λ k. record { same = λ v w m n fv fw am an e. (splits_lines form).same v w m n fv.0 fw.0 am an e };
    some = λ k v f. let w = line_first v in (118, w.0, w.1, refl);
    apart = λ k v b f g. absurd cc;
    follows = λ k v w m f g. apart_any (line_text w ++ m);
    on = λ k. (copies ((place + 1) - k), record { each = copies_come ((place + 1) - k) k refl; ends = copies_end k });
  }

  next_line : (k : ℕ) (mid : List ℕ) → Next (line_chain form place) k mid
  next_line k mid = at (nat_lt k 100) refl
    where
      at : (t : Bool) → nat_lt k 100 ≡ t → Next (line_chain form place) k mid
      at true e = item (reading_built ((line_chain form place).items k) (lines form) (λ v. v) (item_built k (grind (arith, nat_tests))) (λ v left f a. a) (reading_line form) mid)
      at false e = none (grind (arith, nat_tests)) (λ b look v f. let l = f.1 in absurd (grind (arith, nat_tests)))

  pub splits_all_lines : Splits (chains (line_chain form place) 0)
  splits_all_lines = splits_chain (line_chain form place) 0 linked_lines

  pub reading_all_lines : Readable (chains (line_chain form place) 0)
  reading_all_lines = reading_chain (line_chain form place) 0 linked_lines next_line

  pub all_lines_text : (k : ℕ) (vs : List ViewLists) → lines_text vs ≡ chain_text (line_chain form place) k vs
  all_lines_text k [] = refl
  all_lines_text k (v ∷ vs) = ap (λ t. line_text v ++ t) (all_lines_text (k + 1) vs)

  come_written : (k : ℕ) (vs : List ViewLists) → MayCome (line_chain form place) k vs → EachFits (IsWrittenView form) vs
  come_written k [] h = tt
  come_written k (v ∷ vs) h = (h.0.0, come_written (k + 1) vs h.1)

  come_few : (k : ℕ) (vs : List ViewLists) → k ≤ 100 → MayCome (line_chain form place) k vs → k + length vs ≤ 100
  come_few k [] l h = omega arith
  come_few k (v ∷ vs) l h = let s = h.0.1 in let e = come_few (k + 1) vs (omega arith) h.1 in omega arith

  written_come : (k : ℕ) (vs : List ViewLists) → k + length vs ≤ 100 → EachFits (IsWrittenView form) vs → MayCome (line_chain form place) k vs
  written_come k [] l h = tt
  written_come k (v ∷ vs) l h = ((h.0, omega arith), written_come (k + 1) vs (omega arith) h.1)

  lt_is : (n : ℕ) → nat_lt place n ≡ true → place < n
  lt_is n h = grind (arith, nat_tests)

  is_lt : (n : ℕ) → place < n → nat_lt place n ≡ true
  is_lt n h = grind (arith, nat_tests)

  pub whole_lines : (vs : List ViewLists) → IsWhole (line_chain form place) 0 vs → EachFits (IsWrittenView form) vs × ((length vs ≤ 100) × (place < length vs))
  whole_lines vs w =
      let l = come_few 0 vs (omega arith) w.each in
      let e = after_lines 0 vs in
      let f = lt_is (after (line_chain form place) 0 vs) w.ends in
      (come_written 0 vs w.each, (omega arith, omega arith))

  pub lines_whole : (vs : List ViewLists) → EachFits (IsWrittenView form) vs → length vs ≤ 100 → place < length vs → IsWhole (line_chain form place) 0 vs
  lines_whole vs f few l = let e = after_lines 0 vs in record { each = written_come 0 vs (omega arith) f; ends = is_lt (after (line_chain form place) 0 vs) (omega arith) }

  -- the loop

  pub line_shorter : (k : ℕ) → k < 100 → (mid left : List ℕ) (v : ViewLists) → IsTaken (lines form) mid v left → length left < length mid
  line_shorter k l mid left v t =
      let w = line_first v in
      let e : length mid ≡ length ((118 ∷ w.0) ++ left) = ap length (t.split ∙ ap (λ s. s ++ left) w.1) in
      omega (arith, length-append w.0 left)

  pub one_line : (k : ℕ) → k < 100 → (mid left : List ℕ) (v : ViewLists) → IsTaken (lines form) mid v left → IsTaken ((line_chain form place).items k) mid v left
  one_line k l mid left v t = taken_built ((line_chain form place).items k) (lines form) (λ w. w) mid left v (item_built k l) (λ a. a) t

  some_first : (s : List ℕ) → 0 < length s → (b : ℕ) × (first s ≡ Some b) × (true ≡ true)
  some_first [] l = absurd (omega arith)
  some_first (b ∷ s) l = (b, refl, refl)

  pub line_stops : (k : ℕ) (bytes mid left : List ℕ) (done : List ViewLists) (stop : Stop) → k < 100 → (place < k → 0 < length mid) → Came (line_chain form place) 0 bytes done k mid
      → Reads (lines form) mid (Err stop) left → Reads (chains (line_chain form place) 0) bytes (Err stop) left
  line_stops k bytes mid left done stop l more came s =
      err_item (line_chain form place) 0 k bytes mid left done stop linked_lines came (err_built ((line_chain form place).items k) (lines form) (λ w. w) mid left stop (item_built k l) s) (why (nat_lt place k) refl)
    where
      why : (t : Bool) → nat_lt place k ≡ t → (nat_lt place k ≡ false) ⊎ ((b : ℕ) × (first mid ≡ Some b) × (true ≡ true))
      why false e = inl e
      why true e = inr (some_first mid (more (grind (arith, nat_tests))))

  pub lines_end : (k : ℕ) (bytes mid : List ℕ) (done : List ViewLists) → (k < 100 → (place < k) × (length mid ≡ 0)) → Came (line_chain form place) 0 bytes done k mid → length mid ≡ 0
      → IsTaken (chains (line_chain form place) 0) bytes done mid
  lines_end k bytes mid done out came e = taken_chain (line_chain form place) 0 k bytes mid done came (is_lt k (past (nat_lt k 100) refl)) (empty mid e)
    where
      past : (t : Bool) → nat_lt k 100 ≡ t → place < k
      past true h = (out (grind (arith, nat_tests))).0
      past false h = let f : 100 ≤ k = grind (arith, nat_tests) in omega arith

      empty : (s : List ℕ) → length s ≡ 0 → Apart (λ b. true) s
      empty [] h = tt
      empty (b ∷ s) h = absurd (omega arith)

  pub lines_past : (k : ℕ) (bytes mid : List ℕ) (done : List ViewLists) → (k < 100 → (place < k) × (length mid ≡ 0)) → Came (line_chain form place) 0 bytes done k mid → 0 < length mid
      → IsStuck (chains (line_chain form place) 0) bytes mid
  lines_past k bytes mid done out came l =
      let b = some_first mid l in
      stuck_end (line_chain form place) 0 k bytes mid done b.0 linked_lines came (is_lt k past) b.1 refl (λ v f e. let g = f.1 in let h = (out g).1 in omega arith)
    where
      at : (t : Bool) → nat_lt k 100 ≡ t → place < k
      at true h = (out (grind (arith, nat_tests))).0
      at false h = let f : 100 ≤ k = grind (arith, nat_tests) in omega arith

      past : place < k
      past = at (nat_lt k 100) refl
