-- Entries of a directory with what a lookup answers, one after the other.
use Rattle.fuse_reply.specs.Listing.{direntplus}
use Rattle.fuse_reply.proofs.ListingSplit.{eighths-plus_listing, flat_map-add, plus_listing-split, within}
use Rattle.fuse_reply.proofs.laws.plus_listings_split_in_one_way.Goals as goal

pub returns-clause-eighths : goal.returns-clause-eighths
returns-clause-eighths c entries = eighths-plus_listing entries

pub returns-clause-within : goal.returns-clause-within
returns-clause-within c size entries fits = within direntplus size entries fits

pub returns-clause-gains : goal.returns-clause-gains
returns-clause-gains c entries e = flat_map-add direntplus entries e

pub returns-clause-split : goal.returns-clause-split
returns-clause-split c entries others each each_other same = plus_listing-split entries others each each_other same
