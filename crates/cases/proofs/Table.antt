-- THEOREM. Every row of the table holds: antt computes the definitions at each.
use mathlib.Core.Path.{refl}
use Rattle.octets.specs.Octets.{be_at, bytes_of, ones}
use Rattle.octets_address.specs.Address.{size_of, address_size as family_size}
use Rattle.rules.specs.Ask.{over, past, ◌>>=◌}
use Rattle.header.specs.Kind.{known, timed, size}
use Rattle.header.specs.Read.{header, header_at}
use Rattle.header.specs.Frame.{framed, frame}
use Rattle.peers_entry.specs.Peer.{wide, address_size, as_size, peer_size}
use Rattle.peers_table.specs.Table.{end_at, name_length, peer_count, first_peer, last_end, check_peers}
use Rattle.rib_head.specs.Layout.{ipv4, ipv6, pathed, carried, most_bits, path_size, prefix_size}
use Rattle.rib_head.specs.Head.{bits_of, count_at, declared, entries_at, readable, check_rib}
use Rattle.rib_entries.specs.Entry.{attributes_at, entry_end, fits, passed, read_count}
use Rattle.rib_read.specs.Rib.{rib_of}
use Rattle.walk_checks.specs.Message.{message_bounds, message}
use Rattle.walk_checks.specs.Bgp4mp.{as_sizes, as_size as bgp_as_size, state_change, tail, envelope, bgp4mp}
use Rattle.walk.specs.Step.{when_fit, when_stands, when_whole, aligned, row_from, row_on, row, scan}
use Rattle.walk.specs.Step.{unfound, leave, scanned, resume, own_end, judged, going, step}
use Rattle.walk_judge.specs.Body.{carried as type_carried, table_dump_v2, check_of, check}
use Rattle.walk_judge.specs.Record.{verdict, judge, judge_at, judgement_at}
use Rattle.walk_candidate.specs.Candidate.{taken_up, evidence, plausible, standing, headed, candidate, candidate_at}
use Rattle.cases.specs.Cases.{Hold, rows}

-- a row holds, and those after it
infixr 30 ◌&◌
abbrev ◌&◌ : {A B : Type 0} → A → B → A × B
a & b = (a, b)

pub table : Hold rows
unfolding rows be_at bytes_of ones over past ◌>>=◌ known timed size header header_at framed frame wide size_of address_size as_size
    peer_size
    end_at name_length peer_count first_peer last_end check_peers ipv4 ipv6 pathed carried most_bits path_size prefix_size bits_of count_at
    declared entries_at readable check_rib attributes_at entry_end fits passed read_count rib_of message_bounds message as_sizes bgp_as_size
    family_size state_change tail envelope bgp4mp when_fit when_stands when_whole aligned row_from row_on row scan unfound leave scanned
    resume
    own_end judged going step type_carried table_dump_v2 check_of check verdict judge judge_at judgement_at taken_up evidence plausible
    standing
    headed candidate candidate_at
table =
    refl & refl & refl & refl & refl & refl & refl & refl & refl & refl & refl
    & refl & refl & refl & refl & refl & refl & refl & refl & refl & refl & refl & tt
