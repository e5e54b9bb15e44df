-- The end of a session in the background, which is one of a run.
use Rattle.std.proofs.Common.{rules}
use Rattle.fuse_session.proofs.SessionParts.{EndsRun-ran, Headline-ran, LaterHeadline-ran, Mounted-ran, Ok-from_run}
use Rattle.fuse_session.proofs.SessionParts.{OrderedHeadline-ran, Threads-ran}
use Rattle.fuse_session.proofs.background.BackgroundSession.join.Goals as goal

pub returns-clause-ran : goal.returns-clause-ran
returns-clause-ran g c = search rules

pub returns-clause-session : goal.returns-clause-session
returns-clause-session g c page fs source sink opened =
    Mounted-ran g.FS.Filesystem.promise page fs _ source _ sink _ c.args.self.session _ _ opened (returns-clause-ran g c)

pub returns-clause-headline : goal.returns-clause-headline
returns-clause-headline g c never page fs source sink opened ok lossless =
    Headline-ran g.FS.Filesystem.promise page fs _ source _ sink _ c.args.self.session _ _ never opened (returns-clause-ran g c) ok lossless

pub returns-clause-in_order : goal.returns-clause-in_order
returns-clause-in_order g c one page fs source sink opened ok lossless =
    OrderedHeadline-ran g.FS.Filesystem.promise page fs _ source _ sink _ c.args.self.session _ _ one opened (returns-clause-ran g c) ok lossless

pub returns-clause-later : goal.returns-clause-later
returns-clause-later g c page fs source sink opened ok lossless =
    LaterHeadline-ran g.FS.Filesystem.promise page fs _ source _ sink _ c.args.self.session _ _ opened (returns-clause-ran g c) ok lossless

pub returns-clause-recorded : goal.returns-clause-recorded
returns-clause-recorded g c never = (returns-clause-ran g c).recorded never

pub returns-clause-complete : goal.returns-clause-complete
returns-clause-complete g c well = Ok-from_run g.FS.Filesystem.promise c.args.self.session _ _ _ _ _ (returns-clause-ran g c) well

pub returns-clause-threads : goal.returns-clause-threads
returns-clause-threads g c = Threads-ran (returns-clause-ran g c)

pub returns-clause-causes : goal.returns-clause-causes
returns-clause-causes g c = EndsRun-ran (returns-clause-ran g c)
