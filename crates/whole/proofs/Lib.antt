-- PeerTables, RibBodies, TableDumps: tables and bodies there and back. HandedOut: what a cursor hands out, from the first entry to the
-- end. Peers: one peer there and back. Tests: a law of tests. Seams: what stands in a RIB body that is put together. Built: a body under
-- construction. Runs: entries one after the other. Rebuilt: a body put together from what is read of it. Records: a record in a stream is
-- judged fit. Written: a header and a body that the calls wrote are one record. Streams: a stream of records is walked as exactly those.
-- Copied: a body copied by rows. Stopped: where rows stop. Mixed: what runs of exported calls promise.
-- Missing: what is told of a RIB record, by those before it.
pub mod Peers
pub mod PeerTables
pub mod HandedOut
pub mod Tests
pub mod Seams
pub mod Built
pub mod Runs
pub mod Rebuilt
pub mod RibBodies
pub mod Records
pub mod TableDumps
pub mod Written
pub mod Streams
pub mod Copied
pub mod Stopped
pub mod Mixed
pub mod Missing
