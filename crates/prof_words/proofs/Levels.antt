-- What clap says of the words behind a command.
use Rattle.std.proofs.Common.{◌≡◌, ◌∙◌, ℕ, suc, List, [], ◌∷◌, ◌++◌, length, true, false, not, ◌==◌, ◌&&◌, ◌||◌, nat_le, nat_lt, Some, None, refl, sym, ap, arith, codes, append_assoc, append-nil}
use Rattle.std.specs.List.{list_all, fold}
use Rattle.std.proofs.lemmas.Bool.Decides.{nat_tests}
use Rattle.clap.specs.Faults.{check_fault, defaults_fault, level_fault, settle_fault, walk_fault}
use Rattle.clap.specs.Kinds.{Kinds, or_else, range_kinds, values_kinds}
use Rattle.clap.specs.Simple.{Shape, built_leaf, inherited, marked_built, new_rule}
use Rattle.clap.specs.Walk.{Text, Rule, Held, Walk, positional, finished, is_empty, settled, nothing_held, walk, walk_from, walked, rows_after, all_of}
use Rattle.clap.specs.declared.builder.action.ArgAction.TheVariants.{Set}
use Rattle.clap.specs.declared.builder.value_parser.ValueParser.TheVariants as vp
use Rattle.clap.proofs.OnLiterals.{clap_on_literals}
use Rattle.prof_words.specs.Commands.{fits, is_word, name_of}
use Rattle.prof_words.specs.Desk.{desk, leaf}
use Rattle.prof_words.specs.declared.command.Command.{Command}
use Rattle.prof_words.specs.declared.command.Command.TheVariants.{Tree, Markers, Script, Serve, Check, Convert, Gen, Demo, Flame, Chart, Alloc, Merge}

-- a built command
abbrev pub ready : Command → Shape
ready c = built_leaf (inherited (marked_built desk.top) (leaf c))

-- a built argument that takes from a least to a greatest number of words, and a command of that name with it alone
abbrev built_rule : ℕ → ℕ → Rule
built_rule least most = record (new_rule (codes "words")) {
  required = true;
  index = Some 1;
  action = Some Set;
  parser = Some vp.String;
  range = Some (record { start_inclusive = least; end_inclusive = most });
}

abbrev shape : Text → ℕ → ℕ → Shape
shape name least most = record (ready Tree) { name = name; rules = built_rule least most ∷ [] }

no_dash : (b : ℕ) (bs : Text) (rest : List Text) → list_all is_word ((b ∷ bs) ∷ rest) ≡ true → (b == 45) ≡ false
no_dash b bs rest h = grind arith

later : (b : ℕ) (bs : Text) (rest : List Text) → list_all is_word ((b ∷ bs) ∷ rest) ≡ true → list_all is_word rest ≡ true
later b bs rest h = grind arith

values_none : (vs : List Text) → values_kinds false vp.String vs ≡ []
values_none [] = refl
values_none (v ∷ vs) = values_none vs

-- the refusals of a level, by those of its walk and by what is held where the walk ends
abbrev after_walk : Shape → Kinds → Held → Kinds
after_walk s walked end = or_else walked (or_else [] (or_else (settle_fault s.rules s.args_override_self end)
    (or_else (defaults_fault (settled s.rules end).rows s.rules) (check_fault s (finished s.rules end) false))))

level_by : (s : Shape) (words : List Text) (end : Held) → (walk s.rules [] nothing_held words).held ≡ end
    → level_fault s [] nothing_held words false [] ≡ after_walk s (walk_fault s [] (walk_from nothing_held) words) end
level_by s words end e = ap (after_walk s (walk_fault s [] (walk_from nothing_held) words)) e

-- ---- no word, and commands of one word

none_level : (name : Text) (least most : ℕ) → is_empty (level_fault (shape name least most) [] nothing_held [] false []) ≡ false
unfolding clap_on_literals
none_level name least most = refl

two_are_more : (n : ℕ) → (nat_le 1 (suc (suc n)) && nat_le (suc (suc n)) 1) ≡ false
two_are_more n = grind (arith, nat_tests)

one_level : (name : Text) (ws : List Text) → list_all is_word ws ≡ true
    → is_empty (level_fault (shape name 1 1) [] nothing_held ws false []) ≡ (nat_le 1 (length ws) && nat_le (length ws) 1)
unfolding clap_on_literals
one_level name [] h = refl
one_level name ([] ∷ rest) h = cc h
one_level name ((a ∷ at) ∷ []) h =
    let e = no_dash a at [] h in
    simp e
one_level name ((a ∷ at) ∷ [] ∷ rest) h =
    let g = later a at ([] ∷ rest) h in
    cc g
one_level name ((a ∷ at) ∷ (b ∷ bt) ∷ rest) h =
    let e = no_dash a at ((b ∷ bt) ∷ rest) h in
    let g = later a at ((b ∷ bt) ∷ rest) h in
    let f = no_dash b bt rest g in
    let m = two_are_more (length rest) in
    simp (e, f, m)

one_word : (name : Text) (ws : List Text) → list_all is_word ws ≡ true → (nat_le 1 (length ws) && nat_le (length ws) 1) ≡ true
    → all_of (codes "words") (rows_after (shape name 1 1).rules [] ws) ≡ Some ws
unfolding clap_on_literals
one_word name [] h f = cc f
one_word name ([] ∷ rest) h f = cc h
one_word name ((a ∷ at) ∷ []) h f =
    let e = no_dash a at [] h in
    simp e
one_word name ((a ∷ at) ∷ w ∷ rest) h f =
    let bad : true ≡ false = sym f ∙ two_are_more (length rest) in
    cc bad

-- ---- commands of several words

-- a walk that takes words
abbrev taking : List Text → Walk
taking vs = record {
  held = record { rows = []; pending = Some (codes "words", vs); skip = 0 };
  waiting = positional;
  position = 1;
  is_trailing = false;
  stopped = None;
}

module _ (name : Text) (least most : ℕ) (several : (not (least == most) || nat_lt 1 least) ≡ true) where
  abbrev rules : List Rule
  rules = built_rule least most ∷ []

  taken_step : (vs : List Text) (b : ℕ) (bs : Text) → (b == 45) ≡ false → walked rules [] (taking vs) (b ∷ bs) ≡ taking (vs ++ (b ∷ bs) ∷ [])
  unfolding clap_on_literals
  taken_step vs b bs e = simp (e, several)

  first_step : (b : ℕ) (bs : Text) → (b == 45) ≡ false → walked rules [] (walk_from nothing_held) (b ∷ bs) ≡ taking ((b ∷ bs) ∷ [])
  unfolding clap_on_literals
  first_step b bs e = simp (e, several)

  taken_walk : (vs ws : List Text) → list_all is_word ws ≡ true → fold (walked rules []) (taking vs) ws ≡ taking (vs ++ ws)
  taken_walk vs [] h = ap taking (sym (append-nil vs))
  taken_walk vs ([] ∷ ws) h = cc h
  taken_walk vs ((b ∷ bs) ∷ ws) h =
      ap (λ (w : Walk). fold (walked rules []) w ws) (taken_step vs b bs (no_dash b bs ws h))
      ∙ taken_walk (vs ++ (b ∷ bs) ∷ []) ws (later b bs ws h) ∙ ap taking (append_assoc vs ((b ∷ bs) ∷ []) ws)

  taken_fault : (vs ws : List Text) → list_all is_word ws ≡ true → walk_fault (shape name least most) [] (taking vs) ws ≡ []
  unfolding clap_on_literals
  taken_fault vs [] h = refl
  taken_fault vs ([] ∷ ws) h = cc h
  taken_fault vs ((b ∷ bs) ∷ ws) h =
      let e = no_dash b bs ws h in
      simp (e, several) (taken_fault (vs ++ (b ∷ bs) ∷ []) ws (later b bs ws h))

  all_taken : (b : ℕ) (bs : Text) (ws : List Text) → list_all is_word ((b ∷ bs) ∷ ws) ≡ true → walk rules [] nothing_held ((b ∷ bs) ∷ ws) ≡ taking ((b ∷ bs) ∷ ws)
  all_taken b bs ws h =
      ap (λ (w : Walk). fold (walked rules []) w ws) (first_step b bs (no_dash b bs ws h)) ∙ taken_walk ((b ∷ bs) ∷ []) ws (later b bs ws h)

  first_fault : (b : ℕ) (bs : Text) (ws : List Text) → list_all is_word ((b ∷ bs) ∷ ws) ≡ true → walk_fault (shape name least most) [] (walk_from nothing_held) ((b ∷ bs) ∷ ws) ≡ []
  unfolding clap_on_literals
  first_fault b bs ws h =
      let e = no_dash b bs ws h in
      simp (e, several) (taken_fault ((b ∷ bs) ∷ []) ws (later b bs ws h))

  counted_end : (v : Text) (vs : List Text) (ks : Kinds) → range_kinds least most (suc (length vs)) ≡ ks → is_empty (after_walk (shape name least most) [] (taking (v ∷ vs)).held) ≡ is_empty ks
  unfolding clap_on_literals
  counted_end v vs [] r =
      let n = values_none vs in
      simp (r, n)
  counted_end v vs (k ∷ ks) r =
      let n = values_none vs in
      simp (r, n)

  counted_level : (b : ℕ) (bs : Text) (ws : List Text) → list_all is_word ((b ∷ bs) ∷ ws) ≡ true
      → is_empty (level_fault (shape name least most) [] nothing_held ((b ∷ bs) ∷ ws) false []) ≡ is_empty (range_kinds least most (suc (length ws)))
  counted_level b bs ws h =
      ap is_empty (level_by (shape name least most) ((b ∷ bs) ∷ ws) (taking ((b ∷ bs) ∷ ws)).held (ap (λ (w : Walk). w.held) (all_taken b bs ws h)))
      ∙ ap (λ k. is_empty (after_walk (shape name least most) k (taking ((b ∷ bs) ∷ ws)).held)) (first_fault b bs ws h)
      ∙ counted_end (b ∷ bs) ws (range_kinds least most (suc (length ws))) refl

  counted : (n : ℕ) → is_empty (range_kinds least most (suc n)) ≡ (nat_le least (suc n) && nat_le (suc n) most)
  counted n = grind (arith, nat_tests)

  several_level : nat_le least 0 ≡ false → (ws : List Text) → list_all is_word ws ≡ true
      → is_empty (level_fault (shape name least most) [] nothing_held ws false []) ≡ (nat_le least (length ws) && nat_le (length ws) most)
  several_level some [] h = none_level name least most ∙ rw some refl
  several_level some ([] ∷ ws) h = cc h
  several_level some ((b ∷ bs) ∷ ws) h = counted_level b bs ws h ∙ counted (length ws)

  several_words : nat_le least 0 ≡ false → (ws : List Text) → list_all is_word ws ≡ true → (nat_le least (length ws) && nat_le (length ws) most) ≡ true
      → all_of (codes "words") (rows_after (shape name least most).rules [] ws) ≡ Some ws
  unfolding clap_on_literals
  several_words some [] h f =
      let bad : false ≡ true = rw some at f in
      cc bad
  several_words some ([] ∷ ws) h f = cc h
  several_words some ((b ∷ bs) ∷ ws) h f =
      let g = all_taken b bs ws h in
      simp g

-- ---- each command

-- clap takes as many words as fit
pub level : (c : Command) (ws : List Text) → list_all is_word ws ≡ true → is_empty (level_fault (ready c) [] nothing_held ws false []) ≡ fits c (length ws)
level Tree ws h = one_level (name_of Tree) ws h
level Markers ws h = several_level (name_of Markers) 2 3 refl refl ws h
level Script ws h = several_level (name_of Script) 2 2 refl refl ws h
level Serve ws h = several_level (name_of Serve) 4 19 refl refl ws h
level Check ws h = one_level (name_of Check) ws h
level Convert ws h = one_level (name_of Convert) ws h
level Gen ws h = one_level (name_of Gen) ws h
level Demo ws h = one_level (name_of Demo) ws h
level Flame ws h = several_level (name_of Flame) 2 2 refl refl ws h
level Chart ws h = several_level (name_of Chart) 2 2 refl refl ws h
level Alloc ws h = several_level (name_of Alloc) 3 3 refl refl ws h
level Merge ws h = several_level (name_of Merge) 3 3 refl refl ws h

-- and gives these words
pub words_behind : (c : Command) (ws : List Text) → list_all is_word ws ≡ true → fits c (length ws) ≡ true
    → all_of (codes "words") (rows_after (ready c).rules [] ws) ≡ Some ws
words_behind Tree ws h f = one_word (name_of Tree) ws h f
words_behind Markers ws h f = several_words (name_of Markers) 2 3 refl refl ws h f
words_behind Script ws h f = several_words (name_of Script) 2 2 refl refl ws h f
words_behind Serve ws h f = several_words (name_of Serve) 4 19 refl refl ws h f
words_behind Check ws h f = one_word (name_of Check) ws h f
words_behind Convert ws h f = one_word (name_of Convert) ws h f
words_behind Gen ws h f = one_word (name_of Gen) ws h f
words_behind Demo ws h f = one_word (name_of Demo) ws h f
words_behind Flame ws h f = several_words (name_of Flame) 2 2 refl refl ws h f
words_behind Chart ws h f = several_words (name_of Chart) 2 2 refl refl ws h f
words_behind Alloc ws h f = several_words (name_of Alloc) 3 3 refl refl ws h f
words_behind Merge ws h f = several_words (name_of Merge) 3 3 refl refl ws h f
