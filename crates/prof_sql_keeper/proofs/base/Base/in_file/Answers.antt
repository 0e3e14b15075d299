use Rattle.prof_sql_keeper.proofs.base.Base.in_file.Goals as goal

pub returns : goal.returns
returns c = (
  c.requires,
  c.in_ok-name.ensures.ok,
  λ clean.
      (c.in_ok-conn.conn, (c.in_ok-conn.ensures.opened (c.in_ok-make_table.ensures.clean clean)).0, c.in_ok-make_table.ensures.made clean),
)
