use Rattle.std.proofs.Common.{◌≡◌, ◌≤◌, ◌∙◌, [], ◌∷◌, ◌++◌, ap, sym, subst, length, ℕ, List}
use Rattle.prof_io.specs.Named.{place_of}
use Rattle.prof_named.specs.Names.{names_of}
use Rattle.prof_session.specs.Seated.{Seated}
use Rattle.prof_session_desk.specs.Desk.{DeskLists, IsSeated}
use Rattle.prof_session_desk.proofs.DeskLemmas.{desk_with, name_lacks, name_pushed}
use Rattle.prof_session_desk.proofs.MakeLemmas.{push_seat}
use Rattle.prof_session_desk.proofs.desk.Desk.add_seat.Goals as goal

pub push-requires : goal.push-requires
push-requires c =
    name_lacks c.self.inside.names c.self.inside.seats.items c.self.invariant.1 c.args.name.now
    (subst (λ (d : DeskLists). length d.seats ≤ place_of d.seats c.args.name.now) (sym c.self.view_is) c.requires.lacks)

pub invariant_of-self-2 : goal.invariant_of-self-2
invariant_of-self-2 c =
    let ps = c.self.inside.profiles.items in
    let es = c.self.inside.seats.items in
    let name = c.args.name.now in
    let lacks : length es ≤ place_of es name = subst (λ (d : DeskLists). length d.seats ≤ place_of d.seats name) (sym c.self.view_is) c.requires.lacks in
    let seated : IsSeated ps c.args.seat = subst (λ (d : DeskLists). IsSeated d.profiles c.args.seat) (sym c.self.view_is) c.requires.seated in
    let pushed : c.push_reserved.new.self.items ≡ es ++ (c.in_ok-key.key, c.args.seat) ∷ [] =
    c.push_reserved.ensures.items ∙ ap (λ (l : List (List ℕ × Seated)). l ++ (c.in_ok-key.key, c.args.seat) ∷ []) c.reserve.ensures.items in
    let named : c.push.new.self ≡ names_of c.push_reserved.new.self.items =
    c.in_ok-push.ensures.ok ∙ (name_pushed c.self.inside.names es c.self.invariant.1 name c.args.seat
    ∙ ap names_of (ap (λ (k : List ℕ). es ++ (k, c.args.seat) ∷ []) (sym c.in_ok-key.ensures) ∙ sym pushed)) in (
      desk_with ps es c.push_reserved.new.self.items name c.args.seat c.self.invariant.0 seated
          (push_seat es c.push_reserved.new.self.items name c.in_ok-key.key c.args.seat c.in_ok-key.ensures pushed lacks),
      named,
    )

pub returns-clause-ok : goal.returns-clause-ok
returns-clause-ok c =
    let ps = c.self.inside.profiles.items in
    let es = c.self.inside.seats.items in
    let pushed : c.push_reserved.new.self.items ≡ es ++ (c.args.name.now, c.args.seat) ∷ [] =
    c.push_reserved.ensures.items ∙ (ap (λ (l : List (List ℕ × Seated)). l ++ (c.in_ok-key.key, c.args.seat) ∷ []) c.reserve.ensures.items
    ∙ ap (λ (k : List ℕ). es ++ (k, c.args.seat) ∷ []) c.in_ok-key.ensures) in
    rw (← c.self.view_is) (ap (λ (l : List (List ℕ × Seated)). let d : DeskLists = record { profiles = ps; seats = l } in d) pushed)
