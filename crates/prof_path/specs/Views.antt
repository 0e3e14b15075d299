-- What a view asks for
use Rattle.std.specs.Prelude.{ℕ, List}
use Rattle.prof_path.specs.declared.transform.Implementation.{Implementation}
use Rattle.prof_path.specs.declared.transform.Range.{Range}
use Rattle.prof_path.specs.declared.transform.Transform.{Transform}

-- a view: a thread, its ranges and transforms in order, a filter, and the bytes of a search
pub record ViewLists : Type 0 where
  pub thread : ℕ
  pub ranges : List Range
  pub transforms : List Transform
  pub implementation : Implementation
  pub search : List ℕ
