-- The rows of `specs/Readings.antt`, each by running the definition. Assumes nothing.
use mathlib.Core.Path.{refl}
use lib.ListN.{drop}
use Rattle.refusal.specs.Refusals.{refusal, inside}
use Rattle.wire.specs.Parts.{part_at}
use Rattle.wire.specs.Numbers.{be, bytes_of, number_at, number_text}
use Rattle.field.specs.Fields.{ruled, step}
use Rattle.field.specs.Closing.{close_at}
use Rattle.grammar.specs.Splits.{join}
use Rattle.grammar.specs.Reading.{fields_at, block_at, read}
use Rattle.grammar.specs.Forms.{reading, by_version}
use Rattle.grammar.specs.Strict.{strictly}
use Rattle.grammar.specs.Closed.{closed}
use Rattle.list.specs.Items.{items_from, place}
use Rattle.write_rules.specs.HelloTexts.{may_write, hello_bytes, hello_text}
use Rattle.write_rules.specs.MessageTexts.{head_text, message_text}
use Rattle.read_certs.specs.Certs.{certificate_request}
use Rattle.read_others.specs.Body.{session_ticket}
use Rattle.open_hellos.specs.HelloMessages.{server_message}
use Rattle.open_whole.specs.Whole.{whole_body}
use Rattle.envelope.specs.Opening.{head_at, by_type_in, met_at, message}
use Rattle.list.specs.Stopping.{end_of}
use Rattle.content.specs.Contents.{cipher_spec_at, alert_at, heartbeat, heartbeat_in, change_cipher_spec_of, alert_first}
use Rattle.content.specs.Contents.{application_data, heartbeat_of}
use Rattle.content_walk.specs.ContentWalks.{cipher_spec_found, alert_found, handshake_found, application_found}
use Rattle.content_walk.specs.ContentWalks.{heartbeat_found, found_at}
use Rattle.record_open.specs.Plaintext.{first_of, plain_record, contents, opened_first, plaintext}
use Rattle.record_many.specs.Many.{plaintext_from, records_told, many}
use Rattle.claim_rows.specs.Readings.{rows, own_rows, AllRead}

-- the rows by sevens, the last first
r28 : AllRead (drop 28 rows)
unfolding rows message_text head_text number_text hello_text may_write hello_bytes join bytes_of message met_at head_at by_type_in plaintext opened_first contents first_of found_at handshake_found plain_record items_from place end_of by_version certificate_request strictly reading read fields_at block_at step ruled number_at be part_at refusal inside
r28 =
    ((refl, refl), ((refl, refl), ((refl, refl), ((refl, refl), tt))))

r21 : AllRead (drop 21 rows)
unfolding rows message_text head_text number_text hello_text may_write hello_bytes join bytes_of message met_at head_at by_type_in plaintext opened_first contents first_of found_at handshake_found plain_record items_from place end_of by_version certificate_request strictly reading read fields_at block_at step ruled number_at be part_at refusal inside
r21 =
    ((refl, refl), ((refl, refl), ((refl, refl), ((refl, refl), ((refl, refl), ((refl, refl), ((refl, refl), r28)))))))

r14 : AllRead (drop 14 rows)
unfolding rows message_text head_text number_text hello_text may_write hello_bytes join bytes_of message met_at head_at by_type_in plaintext opened_first contents first_of found_at handshake_found plain_record items_from place end_of by_version certificate_request strictly reading read fields_at block_at step ruled number_at be part_at refusal inside
r14 =
    ((refl, refl), ((refl, refl), ((refl, refl), ((refl, refl), ((refl, refl), ((refl, refl), ((refl, refl), r21)))))))

r7 : AllRead (drop 7 rows)
unfolding rows message_text head_text number_text hello_text may_write hello_bytes join bytes_of message met_at head_at by_type_in plaintext opened_first contents first_of found_at handshake_found plain_record items_from place end_of by_version certificate_request strictly reading read fields_at block_at step ruled number_at be part_at refusal inside
r7 =
    ((refl, refl), ((refl, refl), ((refl, refl), ((refl, refl), ((refl, refl), ((refl, refl), ((refl, refl), r14)))))))

all_read : AllRead rows
unfolding rows message_text head_text number_text hello_text may_write hello_bytes join bytes_of message met_at head_at by_type_in plaintext opened_first contents first_of found_at handshake_found plain_record items_from place end_of by_version certificate_request strictly reading read fields_at block_at step ruled number_at be part_at refusal inside
all_read =
    ((refl, refl), ((refl, refl), ((refl, refl), ((refl, refl), ((refl, refl), ((refl, refl), ((refl, refl), r7)))))))

o63 : AllRead (drop 63 own_rows)
unfolding own_rows message by_type_in session_ticket closed close_at many records_told plaintext_from plaintext opened_first contents first_of found_at cipher_spec_found alert_found handshake_found application_found heartbeat_found change_cipher_spec_of alert_first heartbeat_of heartbeat_in cipher_spec_at alert_at application_data heartbeat met_at head_at plain_record items_from place end_of reading read fields_at block_at step ruled number_at be bytes_of part_at refusal inside
o63 =
    ((refl, refl), ((refl, refl), ((refl, refl), ((refl, refl), ((refl, refl), ((refl, refl), ((refl, refl), tt)))))))

o56 : AllRead (drop 56 own_rows)
unfolding own_rows message by_type_in session_ticket closed close_at many records_told plaintext_from plaintext opened_first contents first_of found_at cipher_spec_found alert_found handshake_found application_found heartbeat_found change_cipher_spec_of alert_first heartbeat_of heartbeat_in cipher_spec_at alert_at application_data heartbeat met_at head_at plain_record items_from place end_of reading read fields_at block_at step ruled number_at be bytes_of part_at refusal inside
o56 =
    ((refl, refl), ((refl, refl), ((refl, refl), ((refl, refl), ((refl, refl), ((refl, refl), ((refl, refl), o63)))))))

o49 : AllRead (drop 49 own_rows)
unfolding own_rows many records_told plaintext_from plaintext opened_first contents first_of found_at cipher_spec_found alert_found handshake_found application_found heartbeat_found change_cipher_spec_of alert_first heartbeat_of heartbeat_in cipher_spec_at alert_at application_data heartbeat met_at head_at plain_record items_from place end_of reading read fields_at block_at step ruled number_at be bytes_of part_at refusal inside
o49 =
    ((refl, refl), ((refl, refl), ((refl, refl), ((refl, refl), ((refl, refl), ((refl, refl), ((refl, refl), o56)))))))

o42 : AllRead (drop 42 own_rows)
unfolding own_rows many records_told plaintext_from plaintext opened_first contents first_of found_at cipher_spec_found alert_found handshake_found application_found heartbeat_found change_cipher_spec_of alert_first heartbeat_of heartbeat_in cipher_spec_at alert_at application_data heartbeat met_at head_at plain_record items_from place end_of reading read fields_at block_at step ruled number_at be bytes_of part_at refusal inside
o42 =
    ((refl, refl), ((refl, refl), ((refl, refl), ((refl, refl), ((refl, refl), ((refl, refl), ((refl, refl), o49)))))))

o35 : AllRead (drop 35 own_rows)
unfolding own_rows many records_told plaintext_from plaintext opened_first contents first_of found_at cipher_spec_found alert_found handshake_found application_found heartbeat_found change_cipher_spec_of alert_first heartbeat_of heartbeat_in cipher_spec_at alert_at application_data heartbeat met_at head_at plain_record items_from place end_of reading read fields_at block_at step ruled number_at be bytes_of part_at refusal inside
o35 =
    ((refl, refl), ((refl, refl), ((refl, refl), ((refl, refl), ((refl, refl), ((refl, refl), ((refl, refl), o42)))))))

o28 : AllRead (drop 28 own_rows)
unfolding own_rows message met_at head_at by_type_in server_message whole_body session_ticket closed close_at certificate_request plaintext opened_first contents first_of found_at cipher_spec_found alert_found handshake_found plain_record items_from end_of by_version reading read fields_at block_at step ruled number_at cipher_spec_at alert_at be bytes_of part_at refusal inside many records_told plaintext_from application_found heartbeat_found change_cipher_spec_of alert_first heartbeat_of heartbeat_in application_data heartbeat place
o28 =
    ((refl, refl), ((refl, refl), ((refl, refl), ((refl, refl), ((refl, refl), ((refl, refl), ((refl, refl), o35)))))))

o21 : AllRead (drop 21 own_rows)
unfolding own_rows message met_at head_at by_type_in server_message whole_body session_ticket closed close_at certificate_request plaintext opened_first contents first_of found_at handshake_found plain_record items_from end_of by_version reading read fields_at block_at step ruled number_at be bytes_of part_at refusal inside cipher_spec_found alert_found cipher_spec_at alert_at
o21 =
    ((refl, refl), ((refl, refl), ((refl, refl), ((refl, refl), ((refl, refl), ((refl, refl), ((refl, refl), o28)))))))

o14 : AllRead (drop 14 own_rows)
unfolding own_rows message met_at head_at by_type_in server_message whole_body session_ticket closed close_at certificate_request plaintext opened_first contents first_of found_at handshake_found plain_record items_from end_of by_version reading read fields_at block_at step ruled number_at be bytes_of part_at refusal inside
o14 =
    ((refl, refl), ((refl, refl), ((refl, refl), ((refl, refl), ((refl, refl), ((refl, refl), ((refl, refl), o21)))))))

o7 : AllRead (drop 7 own_rows)
unfolding own_rows message met_at head_at by_type_in server_message whole_body session_ticket closed close_at certificate_request plaintext opened_first contents first_of found_at handshake_found plain_record items_from end_of by_version reading read fields_at block_at step ruled number_at be bytes_of part_at refusal inside
o7 =
    ((refl, refl), ((refl, refl), ((refl, refl), ((refl, refl), ((refl, refl), ((refl, refl), ((refl, refl), o14)))))))

all_own : AllRead own_rows
unfolding own_rows message met_at head_at by_type_in server_message whole_body session_ticket closed close_at certificate_request plaintext opened_first contents first_of found_at handshake_found plain_record items_from end_of by_version strictly reading read fields_at block_at step ruled number_at be bytes_of part_at refusal inside
all_own =
    ((refl, refl), ((refl, refl), ((refl, refl), ((refl, refl), ((refl, refl), ((refl, refl), ((refl, refl), o7)))))))

pub each_row : AllRead rows × AllRead own_rows
each_row = (all_read, all_own)
