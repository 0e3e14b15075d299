use Rattle.std.proofs.Common.{◌+◌, ◌≤◌, ap, ◌∙◌, drop}
use Rattle.prof_token.specs.Ahead.{Ahead}
use Rattle.prof_token.proofs.Windows.{slice_range-from, slice_range-len}
use Rattle.prof_token.proofs.input.Input.pass.Goals as goal

pub returns : goal.returns
returns c =
    let i = c.self.inside in
    let bytes = ap (λ (x : Ahead). x.bytes) c.self.view_is in
    let here : i.from + c.args.count ≤ i.to = slice_range-len _ i.window.items i.from i.to c.args.count bytes c.self.invariant.2 c.requires.here in
    record {
      bytes = slice_range-from i.window.items i.from c.args.count i.to here ∙ ap (drop c.args.count) bytes;
      place = ap (λ (x : Ahead). x.place + c.args.count) c.self.view_is;
      limit = ap (λ (x : Ahead). x.limit) c.self.view_is;
      here = c.requires.here;
      within = c.requires.within;
    }
