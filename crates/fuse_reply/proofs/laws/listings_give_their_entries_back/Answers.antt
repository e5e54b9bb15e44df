-- Entries of a directory, one after the other.
use Rattle.fuse_reply.specs.Listing.{dirent}
use Rattle.fuse_reply.proofs.ListingSplit.{eighths-listing, flat_map-add, listing-back, within}
use Rattle.fuse_reply.proofs.laws.listings_give_their_entries_back.Goals as goal

pub returns-clause-eighths : goal.returns-clause-eighths
returns-clause-eighths c entries = eighths-listing entries

pub returns-clause-within : goal.returns-clause-within
returns-clause-within c size entries fits = within dirent size entries fits

pub returns-clause-gains : goal.returns-clause-gains
returns-clause-gains c entries e = flat_map-add dirent entries e

pub returns-clause-back : goal.returns-clause-back
returns-clause-back c entries others each each_other same = listing-back entries others each each_other same
