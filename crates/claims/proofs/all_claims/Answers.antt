-- `claims::all_claims` meets its contract: every claim, each by the theorem that shows it. Assumes
-- nothing.
use native.Mathlib.Omega.{arith}
use Rattle.refusal.proofs.Told.{numbers_apart, one_result}
use Rattle.wire.proofs.Numbers.{every_width}
use Rattle.field.specs.Fields.{fixed, sized}
use Rattle.field.proofs.Closing.{every_closing, every_length}
use Rattle.list.proofs.Fields.{none_more}
use Rattle.list.proofs.Listed.{by_items}
use Rattle.read_client.proofs.Whole as client
use Rattle.read_client.proofs.Strict as strict
use Rattle.read_server.proofs.Whole as server
use Rattle.read_certs.proofs.Whole as certs
use Rattle.cert_reader.proofs.Same.{every_reader}
use Rattle.read_others.proofs.Whole as body
use Rattle.open_hellos.proofs.Opened as hellos
use Rattle.record_walk.proofs.Walking.{every_walk}
use Rattle.content_walk.proofs.Walking.{every_content}
use Rattle.record.proofs.Whole as records
use Rattle.record_many.proofs.Records.{every_many}
use Rattle.record_joined.proofs.Joined.{no_record_more_lem, same_bytes}
use Rattle.norrabist_c.proofs.HellosBack.{hellos_back}
use Rattle.norrabist_c.proofs.BodiesBack.{bodies_back, lists_back}
use Rattle.norrabist_c.proofs.HeadsBack.{heads_back}
use Rattle.norrabist_c.proofs.ContentsBack.{contents_back}
use Rattle.norrabist_c.proofs.Slices.{slices_same_lem}
use Rattle.claim_wayback.proofs.Hellos.{every_text_lem}
use Rattle.claim_wayback.proofs.Demand3 as back
use Rattle.claim_wayback.proofs.WayBack.{way_back}
use Rattle.claim_rows.proofs.Rows.{each_row}
use Rattle.claim_readers.proofs.Table.{every_reading}
use Rattle.claim_writers.proofs.Writers.{every_writing}
use Rattle.claims.proofs.Crossed.{header_and_record, tells_its_type, every_type, these_written}
use Rattle.claims.proofs.all_claims.Goals as goal

pub returns : goal.returns
returns c = record {
  table = numbers_apart;
  one_part = one_result;
  one_number_of = one_result;
  one_write = one_result;
  one_start = one_result;
  one_client = one_result;
  one_server = one_result;
  one_draft18 = one_result;
  one_certificate = one_result;
  one_request = one_result;
  one_status = one_result;
  one_retry = one_result;
  one_ticket = one_result;
  one_next_protocol = one_result;
  one_message = one_result;
  one_head = one_result;
  one_header = one_result;
  one_raw = one_result;
  one_encrypted = one_result;
  one_plaintext = one_result;
  one_opened = one_result;
  one_content = one_result;
  one_alert = one_result;
  one_heartbeat = one_result;
  one_found_of = one_result;
  one_past = one_result;
  one_many = one_result;
  numbers = every_width;
  reads_client = client.demand3;
  reads_server = server.demand3;
  reads_draft18 = server.demand3_draft18;
  reads_by_version = server.demand3_by_version;
  reads_as_message = hellos.demand3;
  reads_strict = strict.strict_demand3;
  tells_strict = strict.tells_exactness;
  every_text = every_text_lem;
  writes_client = back.writes_client_lem;
  writes_strict = back.writes_strict_lem;
  writes_server = back.writes_server_lem;
  writes_draft18 = back.writes_draft18_lem;
  writes_by_version = back.writes_by_version_lem;
  writes_one_text = back.one_text;
  again_client = back.again_client_lem;
  again_server = back.again_server_lem;
  again_draft18 = back.again_draft18_lem;
  again_by_version = back.again_by_version_lem;
  lists = by_items;
  none_more_of = none_more;
  names = by_items (sized 2) (omega arith);
  certificates = by_items (sized 3) (omega arith);
  methods = by_items (fixed 1) (omega arith);
  ciphers = by_items (fixed 2) (omega arith);
  splits_certificate = certs.splits_certificate_lem;
  splits_request = certs.splits_request_lem;
  chooses = certs.of_request_lem;
  splits_status = certs.splits_status_lem;
  splits_retry = body.splits_retry_lem;
  splits_next_protocol = body.splits_next_protocol_lem;
  closing = every_closing;
  closing_length = every_length;
  splits_ticket = body.splits_ticket_lem;
  ticket = body.of_ticket_lem;
  splits_record = records.all_records;
  no_record_more = no_record_more_lem;
  walks = every_walk;
  contents = every_content;
  many = every_many;
  readers = every_reader;
  same_bytes_of = same_bytes;
  way_back_of = way_back;
  hellos_told = hellos_back;
  bodies_told = bodies_back;
  lists_told = lists_back;
  heads_told = heads_back;
  contents_told = contents_back;
  slices_same = slices_same_lem;
  header = header_and_record;
  kinds = tells_its_type;
  written = these_written;
  rules_rows = each_row.0;
  other_rows = each_row.1;
  readers_say = every_reading;
  writers_say = every_writing;
  writers_type = every_type;
}
