-- What clap says of all the words, by what it says of those behind the command.
use Rattle.std.proofs.Common.{◌≡◌, ◌∙◌, ℕ, List, [], ◌∷◌, ◌++◌, Bool, true, false, Some, refl, sym, ap, append_assoc, append-nil}
use Rattle.std.specs.List.{fold}
use Rattle.clap.specs.Faults.{level_fault, fault_of, walk_fault, is_simple_and_free}
use Rattle.clap.specs.Kinds.{Kinds, or_else}
use Rattle.clap.specs.Simple.{Shape, built, subcommand_of, names_of, is_simple}
use Rattle.clap.specs.Walk.{Text, Rule, Names, Held, Walk, Waiting, idle, nothing_held, rows_after, walked}
use Rattle.clap.proofs.OnLiterals.{clap_on_literals}
use Rattle.prof_words.specs.Commands.{name_of}
use Rattle.prof_words.specs.Desk.{desk}
use Rattle.prof_words.specs.declared.command.Command.{Command}
use Rattle.prof_words.specs.declared.command.Command.TheVariants.{Tree, Markers, Script, Serve, Check, Convert, Gen, Demo, Flame, Chart, Alloc, Merge}
use Rattle.prof_words.proofs.Levels.{ready}

pub desk_is_simple : is_simple desk ≡ true
unfolding clap_on_literals
desk_is_simple = refl

pub desk_is_free : is_simple_and_free desk ≡ true
unfolding clap_on_literals
desk_is_free = refl

-- a walk that has met its command takes the words that are left
abbrev stopped : Held → Waiting → ℕ → Bool → Text → List Text → Walk
stopped h w p t name ws = record { held = h; waiting = w; position = p; is_trailing = t; stopped = Some (name, ws) }

stopped_walk : (rules : List Rule) (names : Names) (h : Held) (w : Waiting) (p : ℕ) (t : Bool) (name : Text) (us ws : List Text)
    → fold (walked rules names) (stopped h w p t name us) ws ≡ stopped h w p t name (us ++ ws)
unfolding walked
stopped_walk rules names h w p t name us [] = ap (stopped h w p t name) (sym (append-nil us))
stopped_walk rules names h w p t name us (x ∷ ws) =
    stopped_walk rules names h w p t name (us ++ x ∷ []) ws ∙ ap (stopped h w p t name) (append_assoc us (x ∷ []) ws)

-- and nothing of these is refused
stopped_fault : (s : Shape) (names : Names) (h : Held) (w : Waiting) (p : ℕ) (t : Bool) (name : Text) (us ws : List Text)
    → walk_fault s names (stopped h w p t name us) ws ≡ []
unfolding walk_fault walked
stopped_fault s names h w p t name us [] = refl
stopped_fault s names h w p t name us (x ∷ ws) = stopped_fault s names h w p t name (us ++ x ∷ []) ws

or_else-nil : (k : Kinds) → or_else k [] ≡ k
or_else-nil [] = refl
or_else-nil (x ∷ k) = refl

abbrev names : Names
names = names_of (built desk)

pub fault_of-command : (c : Command) (ws : List Text) → fault_of desk (name_of c ∷ ws) ≡ level_fault (ready c) [] nothing_held ws false []
unfolding clap_on_literals
fault_of-command Tree ws =
    let e = stopped_walk [] names nothing_held idle 1 false (name_of Tree) [] ws in
    let f = stopped_fault (built desk).top names nothing_held idle 1 false (name_of Tree) [] ws in
    simp (e, f, or_else-nil)
fault_of-command Markers ws =
    let e = stopped_walk [] names nothing_held idle 1 false (name_of Markers) [] ws in
    let f = stopped_fault (built desk).top names nothing_held idle 1 false (name_of Markers) [] ws in
    simp (e, f, or_else-nil)
fault_of-command Script ws =
    let e = stopped_walk [] names nothing_held idle 1 false (name_of Script) [] ws in
    let f = stopped_fault (built desk).top names nothing_held idle 1 false (name_of Script) [] ws in
    simp (e, f, or_else-nil)
fault_of-command Serve ws =
    let e = stopped_walk [] names nothing_held idle 1 false (name_of Serve) [] ws in
    let f = stopped_fault (built desk).top names nothing_held idle 1 false (name_of Serve) [] ws in
    simp (e, f, or_else-nil)
fault_of-command Check ws =
    let e = stopped_walk [] names nothing_held idle 1 false (name_of Check) [] ws in
    let f = stopped_fault (built desk).top names nothing_held idle 1 false (name_of Check) [] ws in
    simp (e, f, or_else-nil)
fault_of-command Convert ws =
    let e = stopped_walk [] names nothing_held idle 1 false (name_of Convert) [] ws in
    let f = stopped_fault (built desk).top names nothing_held idle 1 false (name_of Convert) [] ws in
    simp (e, f, or_else-nil)
fault_of-command Gen ws =
    let e = stopped_walk [] names nothing_held idle 1 false (name_of Gen) [] ws in
    let f = stopped_fault (built desk).top names nothing_held idle 1 false (name_of Gen) [] ws in
    simp (e, f, or_else-nil)
fault_of-command Demo ws =
    let e = stopped_walk [] names nothing_held idle 1 false (name_of Demo) [] ws in
    let f = stopped_fault (built desk).top names nothing_held idle 1 false (name_of Demo) [] ws in
    simp (e, f, or_else-nil)
fault_of-command Flame ws =
    let e = stopped_walk [] names nothing_held idle 1 false (name_of Flame) [] ws in
    let f = stopped_fault (built desk).top names nothing_held idle 1 false (name_of Flame) [] ws in
    simp (e, f, or_else-nil)
fault_of-command Chart ws =
    let e = stopped_walk [] names nothing_held idle 1 false (name_of Chart) [] ws in
    let f = stopped_fault (built desk).top names nothing_held idle 1 false (name_of Chart) [] ws in
    simp (e, f, or_else-nil)
fault_of-command Alloc ws =
    let e = stopped_walk [] names nothing_held idle 1 false (name_of Alloc) [] ws in
    let f = stopped_fault (built desk).top names nothing_held idle 1 false (name_of Alloc) [] ws in
    simp (e, f, or_else-nil)
fault_of-command Merge ws =
    let e = stopped_walk [] names nothing_held idle 1 false (name_of Merge) [] ws in
    let f = stopped_fault (built desk).top names nothing_held idle 1 false (name_of Merge) [] ws in
    simp (e, f, or_else-nil)

pub subcommand_of-command : (c : Command) (ws : List Text) → subcommand_of desk (name_of c ∷ ws) ≡ Some (name_of c, rows_after (ready c).rules [] ws)
unfolding clap_on_literals
subcommand_of-command Tree ws =
    let e = stopped_walk [] names nothing_held idle 1 false (name_of Tree) [] ws in
    simp e
subcommand_of-command Markers ws =
    let e = stopped_walk [] names nothing_held idle 1 false (name_of Markers) [] ws in
    simp e
subcommand_of-command Script ws =
    let e = stopped_walk [] names nothing_held idle 1 false (name_of Script) [] ws in
    simp e
subcommand_of-command Serve ws =
    let e = stopped_walk [] names nothing_held idle 1 false (name_of Serve) [] ws in
    simp e
subcommand_of-command Check ws =
    let e = stopped_walk [] names nothing_held idle 1 false (name_of Check) [] ws in
    simp e
subcommand_of-command Convert ws =
    let e = stopped_walk [] names nothing_held idle 1 false (name_of Convert) [] ws in
    simp e
subcommand_of-command Gen ws =
    let e = stopped_walk [] names nothing_held idle 1 false (name_of Gen) [] ws in
    simp e
subcommand_of-command Demo ws =
    let e = stopped_walk [] names nothing_held idle 1 false (name_of Demo) [] ws in
    simp e
subcommand_of-command Flame ws =
    let e = stopped_walk [] names nothing_held idle 1 false (name_of Flame) [] ws in
    simp e
subcommand_of-command Chart ws =
    let e = stopped_walk [] names nothing_held idle 1 false (name_of Chart) [] ws in
    simp e
subcommand_of-command Alloc ws =
    let e = stopped_walk [] names nothing_held idle 1 false (name_of Alloc) [] ws in
    simp e
subcommand_of-command Merge ws =
    let e = stopped_walk [] names nothing_held idle 1 false (name_of Merge) [] ws in
    simp e
