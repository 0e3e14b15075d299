-- What words ask for, by their command.
use Rattle.std.proofs.Common.{◌≡◌, ◌∙◌, ℕ, suc, List, [], ◌∷◌, length, Bool, true, false, ◌&&◌, nat_le, Some, None, Err, Option, cond, codes, refl, sym, ap, arith}
use Rattle.std.specs.List.{list_all}
use Rattle.std.specs.Prelude.{option_and_then}
use Rattle.std.specs.Str.{bytes_eq}
use Rattle.std.proofs.lemmas.Bool.Decides.{nat_tests}
use Rattle.std.proofs.lemmas.Slice.Eq.{bytes_eq-Decides}
use Rattle.clap.specs.Faults.{fault_of}
use Rattle.clap.specs.Simple.{subcommand_of}
use Rattle.clap.specs.Walk.{Text, Row, is_empty, all_of, rows_after}
use Rattle.prof_words.specs.Commands.{are_words, command_of, fits, is_word, name_of}
use Rattle.prof_words.specs.Desk.{desk}
use Rattle.prof_words.specs.Words.{named_by, order_of, ordered, serve_order}
use Rattle.prof_words.specs.declared.command.Command.{Command}
use Rattle.prof_words.specs.declared.command.Command.TheVariants.{Tree, Markers, Script, Serve, Check, Convert, Gen, Demo, Flame, Chart, Alloc, Merge}
use Rattle.prof_words.specs.declared.order.WordRefusal.{WordRefusal}
use Rattle.prof_words.specs.declared.order.WordRefusal.TheVariants.{Usage, NoMemory}
use Rattle.prof_words.specs.Reading.{Reads}
use Rattle.prof_words.proofs.Entering.{fault_of-command, subcommand_of-command}
use Rattle.prof_words.proofs.Levels.{level, ready, words_behind}

-- the words are a command's name and words behind it
pub record IsAsked (words : List Text) (c : Command) : Type 0 where
  pub rest : List Text
  pub split : words ≡ name_of c ∷ rest
  pub plain : list_all is_word rest ≡ true
  pub order : order_of words ≡ ordered c rest

-- one of the tests for a command's name
step : (name text : Text) (k : Command) (o : Option Command) (c : Command) → text ≡ name_of k → cond (bytes_eq name text) (Some k) o ≡ Some c
    → (o ≡ Some c → name ≡ name_of c) → name ≡ name_of c
step name text k o c same e more = over (bytes_eq name text) refl
  where
    over : (b : Bool) → bytes_eq name text ≡ b → name ≡ name_of c
    over true is =
        let this : Some k ≡ Some c = rw is at e in
        let command : k ≡ c = cc this in
        (bytes_eq-Decides name text).0 is ∙ same ∙ ap name_of command
    over false is = more (rw is at e)

name_of-command_of : (name : Text) (c : Command) → command_of name ≡ Some c → name ≡ name_of c
name_of-command_of name c e =
    step name (codes "tree") Tree _ c refl e (λ e. step name (codes "markers") Markers _ c refl e (λ e. step name (codes "script") Script _ c refl e
    (λ e. step name (codes "serve") Serve _ c refl e (λ e. step name (codes "check") Check _ c refl e (λ e. step name (codes "convert") Convert _ c refl e
    (λ e. step name (codes "gen") Gen _ c refl e (λ e. step name (codes "demo") Demo _ c refl e (λ e. step name (codes "flame") Flame _ c refl e
    (λ e. step name (codes "chart") Chart _ c refl e (λ e. step name (codes "alloc") Alloc _ c refl e (λ e. step name (codes "merge") Merge None c refl e
    (λ e. cc e))))))))))))

pub asked : (words : List Text) (c : Command) → named_by words ≡ Some c → IsAsked words c
asked [] c e = cc e
asked (name ∷ rest) c e = over (are_words (name ∷ rest)) refl
  where
    behind : list_all is_word (name ∷ rest) ≡ true → list_all is_word rest ≡ true
    behind h = grind arith

    over : (b : Bool) → are_words (name ∷ rest) ≡ b → IsAsked (name ∷ rest) c
    over false is =
        let bad : None ≡ Some c = rw is at e in
        cc bad
    over true is =
        let named : command_of name ≡ Some c = rw is at e in
        record {
          rest = rest;
          split = ap (λ (n : Text). n ∷ rest) (name_of-command_of name c named);
          plain = behind is;
          order = ap (option_and_then (λ (k : Command). ordered k rest)) e;
        }

pub unasked : (words : List Text) → named_by words ≡ None → order_of words ≡ None
unasked [] e = refl
unasked (name ∷ rest) e = ap (option_and_then (λ (k : Command). ordered k rest)) e

-- ---- as many words as fit, and no others

four_or_more : (n : ℕ) → (nat_le 4 (suc (suc (suc n))) && nat_le (suc (suc (suc n))) 19) ≡ (nat_le 1 n && nat_le n 16)
four_or_more n = grind (arith, nat_tests)

ordered-unfit : (c : Command) (ws : List Text) → fits c (length ws) ≡ false → ordered c ws ≡ None
ordered-unfit Tree [] f = refl
ordered-unfit Tree (a ∷ []) f = cc f
ordered-unfit Tree (a ∷ b ∷ ws) f = refl
ordered-unfit Markers [] f = refl
ordered-unfit Markers (a ∷ []) f = refl
ordered-unfit Markers (a ∷ b ∷ []) f = cc f
ordered-unfit Markers (a ∷ b ∷ c ∷ []) f = cc f
ordered-unfit Markers (a ∷ b ∷ c ∷ d ∷ ws) f = refl
ordered-unfit Script [] f = refl
ordered-unfit Script (a ∷ []) f = refl
ordered-unfit Script (a ∷ b ∷ []) f = cc f
ordered-unfit Script (a ∷ b ∷ c ∷ ws) f = refl
ordered-unfit Serve [] f = refl
ordered-unfit Serve (a ∷ []) f = refl
ordered-unfit Serve (a ∷ b ∷ []) f = refl
ordered-unfit Serve (a ∷ b ∷ c ∷ ws) f =
    let few : (nat_le 1 (length ws) && nat_le (length ws) 16) ≡ false = sym (four_or_more (length ws)) ∙ f in
    ap (λ (t : Bool). cond t (serve_order a b c ws) None) few
ordered-unfit Check [] f = refl
ordered-unfit Check (a ∷ []) f = cc f
ordered-unfit Check (a ∷ b ∷ ws) f = refl
ordered-unfit Convert [] f = refl
ordered-unfit Convert (a ∷ []) f = cc f
ordered-unfit Convert (a ∷ b ∷ ws) f = refl
ordered-unfit Gen [] f = refl
ordered-unfit Gen (a ∷ []) f = cc f
ordered-unfit Gen (a ∷ b ∷ ws) f = refl
ordered-unfit Demo [] f = refl
ordered-unfit Demo (a ∷ []) f = cc f
ordered-unfit Demo (a ∷ b ∷ ws) f = refl
ordered-unfit Flame [] f = refl
ordered-unfit Flame (a ∷ []) f = refl
ordered-unfit Flame (a ∷ b ∷ []) f = cc f
ordered-unfit Flame (a ∷ b ∷ c ∷ ws) f = refl
ordered-unfit Chart [] f = refl
ordered-unfit Chart (a ∷ []) f = refl
ordered-unfit Chart (a ∷ b ∷ []) f = cc f
ordered-unfit Chart (a ∷ b ∷ c ∷ ws) f = refl
ordered-unfit Alloc [] f = refl
ordered-unfit Alloc (a ∷ []) f = refl
ordered-unfit Alloc (a ∷ b ∷ []) f = refl
ordered-unfit Alloc (a ∷ b ∷ c ∷ []) f = cc f
ordered-unfit Alloc (a ∷ b ∷ c ∷ d ∷ ws) f = refl
ordered-unfit Merge [] f = refl
ordered-unfit Merge (a ∷ []) f = refl
ordered-unfit Merge (a ∷ b ∷ []) f = refl
ordered-unfit Merge (a ∷ b ∷ c ∷ []) f = cc f
ordered-unfit Merge (a ∷ b ∷ c ∷ d ∷ ws) f = refl

-- a serving order of words that fit
pub ordered-serve : (a b c : Text) (ws : List Text) → fits Serve (suc (suc (suc (length ws)))) ≡ true → ordered Serve (a ∷ b ∷ c ∷ ws) ≡ serve_order a b c ws
ordered-serve a b c ws f =
    let some : (nat_le 1 (length ws) && nat_le (length ws) 16) ≡ true = sym (four_or_more (length ws)) ∙ f in
    ap (λ (t : Bool). cond t (serve_order a b c ws) None) some

module _ (words : List Text) (c : Command) (a : IsAsked words c) where
  fault_of-asked : is_empty (fault_of desk words) ≡ fits c (length a.rest)
  fault_of-asked =
      ap (λ (ws : List Text). is_empty (fault_of desk ws)) a.split ∙ ap is_empty (fault_of-command c a.rest) ∙ level c a.rest a.plain

  -- what clap refuses asks for nothing
  pub order_of-refused : is_empty (fault_of desk words) ≡ false → order_of words ≡ None
  order_of-refused e = a.order ∙ ordered-unfit c a.rest (sym fault_of-asked ∙ e)

  pub refused : (r : WordRefusal) → (r ≡ Usage → is_empty (fault_of desk words) ≡ false) → Reads (order_of words) (Err r)
  refused Usage h = order_of-refused (h refl)
  refused NoMemory h = tt

  pub fits-taken : is_empty (fault_of desk words) ≡ true → fits c (length a.rest) ≡ true
  fits-taken e = sym fault_of-asked ∙ e

  abbrev pub rows : List Row
  rows = rows_after (ready c).rules [] a.rest

  pub rows-found : subcommand_of desk words ≡ Some (name_of c, rows)
  rows-found = ap (subcommand_of desk) a.split ∙ subcommand_of-command c a.rest

  pub rows-behind : is_empty (fault_of desk words) ≡ true → all_of (codes "words") rows ≡ Some a.rest
  rows-behind e = words_behind c a.rest a.plain (fits-taken e)
