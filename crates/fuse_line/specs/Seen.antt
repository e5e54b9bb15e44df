-- A pass as contracts see it: the line that it is of, and what it knows.
use Rattle.atomic_table.specs.Seated.{TableId}
use Rattle.fuse_line.specs.declared.hand.Hand.{Hand}

pub record Seen (T : Type 0) : Type 0 where
  pub line : TableId
  pub hand : Hand T
