use Rattle.std.proofs.Common.{◌<◌, ◌≤◌, ℕ, List, sym, subst, length}
use Rattle.prof_path.specs.Views.{ViewLists}
use Rattle.prof_spell.specs.Pieces.{EachFits}
use Rattle.prof_address.specs.Views.{HasPaths}
use Rattle.prof_session.proofs.KeptLemmas.{all_paths}
use Rattle.prof_session.proofs.seat.Seat.saved.Goals as goal

pub write_saved-requires : goal.write_saved-requires
write_saved-requires c =
    let vs = c.args.self.now.session.views in
    record {
      paths = subst (λ (l : List ViewLists). EachFits HasPaths l) (sym c.in_ok-views.ensures) (all_paths c.args.known.now vs c.requires.views);
      few = subst (λ (l : List ViewLists). length l ≤ 100) (sym c.in_ok-views.ensures) c.place-at.ensures.few;
      place = subst (λ (l : List ViewLists). c.place-at.result < length l) (sym c.in_ok-views.ensures) c.place-at.ensures.within;
    }
