use Rattle.std.proofs.Common.{◌≡◌, sym, ◌∙◌, ap, List, ℕ}
use Rattle.std.specs.Prelude.{Vec}
use Rattle.std.specs.declared.alloc.Global.{Global}
use Rattle.prof_memory.specs.Memory.{shelf_of, bytes_at}
use Rattle.prof_memory.proofs.Shelves.{at_place}
use Rattle.prof_memory.proofs.giving.give_of.Goals as goal

pub returns : goal.returns
returns c =
    let files = c.args.files.now in
    let same : bytes_at (shelf_of files) c.args.file ≡ c.deref.result.now =
    at_place files c.args.file c.index-files-file.result c.if-file-files.false c.index-files-file.is ∙ sym (c.deref.ensures.value ∙ ap (λ (f : List ℕ × Vec ℕ Global). f.1.items) (sym c.index-files-file.is)) in
    record {
      bound = c.give.ensures.bound;
      len = c.give.ensures.len;
      given = rw same c.give.ensures.given;
      end = rw same c.give.ensures.end;
      fits = c.give.ensures.fits;
      amount = rw same c.give.ensures.amount;
    }
