use Rattle.std.proofs.Common.{refl, ap, inl, inr}
use Rattle.std.specs.Prelude.{codes}
use Rattle.prof_schema.specs.Named.{placed_name}
use Rattle.prof_schema.proofs.Tables.{placed_more, placed_named}
use Rattle.prof_schema.proofs.table.PlacedTable.take.Goals as goal

pub returns-in_ok-self-in-Schema-clause-member : goal.returns-in_ok-self-in-Schema-clause-member
returns-in_ok-self-in-Schema-clause-member g c =
    let read = c.in_ok-self-in-Schema.ensures.value in
    let old = c.args.self.now in
    (read.0, read.1, placed_named old.rows.most (placed_name c.args.member) (codes "schema") read.0 old _ (ap placed_name c.in-Schema.is) (placed_more old.rows.most (codes "schema") read.0 old _ (inl (refl, read.2)) (inr (refl, refl))))

pub returns-in_ok-self-in-Data-clause-member : goal.returns-in_ok-self-in-Data-clause-member
returns-in_ok-self-in-Data-clause-member g c =
    let read = c.in_ok-self-in-Data.ensures.rows in
    let old = c.args.self.now in
    (read.0, read.1, placed_named old.rows.most (placed_name c.args.member) (codes "data") read.0 old _ (ap placed_name c.in-Data.is) (placed_more old.rows.most (codes "data") read.0 old _ (inr (refl, refl)) (inl (refl, read.2))))
