-- The replies and notes of generated messages are the same up to order, and their summary is one.
use Rattle.fuse_program.proofs.OneLine.{AnsweredByTree-order, Summarizes-one}
use Rattle.fuse_program.proofs.laws.the_line_is_one.Goals as goal

pub returns-clause-up_to_order : goal.returns-clause-up_to_order
returns-clause-up_to_order c seed count frames others notes noted a b = AnsweredByTree-order seed count frames others notes noted a b

pub returns-clause-one_summary : goal.returns-clause-one_summary
returns-clause-one_summary c form other summary another same s t = Summarizes-one form other summary another same s t
