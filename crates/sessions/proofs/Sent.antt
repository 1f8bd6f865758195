-- That a pass may go to another thread, and that threads may share a desk. Types are taken one by one from below, since a search through
-- all of them at once meets its limit.
use denote.RattleType.{RattleType}
use denote.Param.Send.{IsSend, IsSync, sendable}
use Rattle.std.proofs.Crossing.{crosses}
use Rattle.std.proofs.MapsCrossing.{crosses as maps_cross}
use Rattle.cat_model.specs.contracts.files.Files as Files
use Rattle.slices.proofs.Sent.{test_send, work_send, work_sync, piece_send, piece_sync, tally_send, verdict_send, verdict_sync}
use Rattle.journal.specs.contracts.records.Entry as Entry
use Rattle.journal.specs.contracts.records.Reply as Reply
use Rattle.journal.specs.contracts.records.Said as Said
use Rattle.book.specs.contracts.given.GivenClaims as Given
use Rattle.book.specs.contracts.kept.Book as Book
use Rattle.book.specs.contracts.live.LiveClaims as Live
use Rattle.sessions.specs.contracts.desks.Desk as Desk
use Rattle.sessions.specs.contracts.desks.Shared as Shared
use Rattle.sessions.specs.contracts.passes.Pass as Pass
use Rattle.std.specs.declared.sync.ledger.Ledger.{Ghosts}
use Rattle.std.proofs.sync.ledger.Share.TheSendSync.{the_send as share_send}
use Rattle.std.proofs.sync.ledger.Book.TheSendSync.{the_send as count_send}
use Rattle.std.proofs.sync.Mutex.TheSendSync.{the_sync as mutex_sync}

said_send : IsSend (Said.the_field).row
said_send = search (work_send, crosses, sendable) depth 60 fits 20000

said_sync : IsSync (Said.the_field).row
said_sync = search (work_sync, crosses, sendable) depth 60 fits 20000

reply_send : IsSend (Reply.the_field).row
reply_send = search (verdict_send, piece_send, crosses, sendable) depth 60 fits 20000

reply_sync : IsSync (Reply.the_field).row
reply_sync = search (verdict_sync, piece_sync, crosses, sendable) depth 60 fits 20000

pub entry_send : IsSend Entry.the_row
entry_send = search (said_send, reply_send, crosses, sendable) depth 60 fits 20000

pub entry_sync : IsSync Entry.the_row
entry_sync = search (said_sync, reply_sync, crosses, sendable) depth 60 fits 20000

pub pass_send : (L : RattleType) (g : Ghosts L.Denot) → IsSend (Pass.the_row L g)
pass_send L g = search (entry_send, entry_sync, crosses, share_send, sendable) depth 60 fits 20000

files_send : IsSend Files.the_row
files_send = search (crosses, sendable) depth 60 fits 20000

live_send : IsSend Live.the_row
live_send = search (maps_cross, crosses, sendable) depth 60 fits 20000

given_send : IsSend Given.the_row
given_send = search (live_send, crosses, sendable) depth 60 fits 20000

book_send : IsSend Book.the_row
book_send = search (given_send, test_send, files_send, tally_send, verdict_send, entry_send, entry_sync, crosses, sendable) depth 60 fits 20000

shared_send : (L : RattleType) (g : Ghosts L.Denot) → IsSend (Shared.the_row L g)
shared_send L g = search (book_send, share_send, count_send, crosses, sendable) depth 60 fits 20000

pub desk_sync : (L : RattleType) (g : Ghosts L.Denot) → IsSync (Desk.the_row L g)
desk_sync L g = search (shared_send, mutex_sync, crosses, sendable) depth 60 fits 20000
