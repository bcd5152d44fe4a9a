-- What a table is checked for.
-- Assumes nothing.
use Rattle.tasks.specs.Instance.{Instance, instance_of}
use Rattle.checker.specs.declared.Table.{Table}

-- the instance of its list on its cores, in its slots
abbrev pub instance_for : Table → Instance
instance_for table = instance_of table.len.0 table.m table.tasks.now
