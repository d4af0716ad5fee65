-- What the bytes that a person hands to the program `look` seem to be, by their first four bytes:
-- RULES 6.12.
use Rattle.std.specs.Prelude.{◌∷◌, ◌||◌, ◌&&◌}
use Rattle.refusal.specs.{ℕ, List, [], Bool, length, get_or, leb, eqb}
use Rattle.wire.specs.{pick, be}
use Rattle.look_input.specs.Marks.{pcap, pcap_swapped, pcap_nano, pcap_nano_swapped, pcap_ng, gzip_id1, gzip_id2, gzip_deflate, type_low, type_high, dtls_major, ssl2_top, ssl2_last, ssl2_client_hello, ssl2_major, tls_major, space, tab, line_feed, carriage_return, colon}
use Rattle.look_input.specs.declared.InputKind.{InputKind}
use Rattle.look_input.specs.declared.InputKind.TheVariants.{Records, Pcap, PcapNg, Gzip, Hex, Ssl2, Dtls}

-- a number lies between two, both of which count
abbrev pub between : ℕ → ℕ → ℕ → Bool
between low b high = leb low b && leb b high

-- libpcap's pcap-savefile: either byte order, microseconds or nanoseconds
abbrev pub is_pcap : ℕ → Bool
is_pcap n = eqb n pcap || (eqb n pcap_swapped || (eqb n pcap_nano || eqb n pcap_nano_swapped))

-- RFC 1952 2.3.1: ID1, ID2, and deflate as the method
abbrev pub is_gzip : ℕ → ℕ → ℕ → Bool
is_gzip first second third = eqb first gzip_id1 && (eqb second gzip_id2 && eqb third gzip_deflate)

-- RFC 6347 4.1: a record's type, and a version that is counted down from 0xfeff
abbrev pub is_dtls : ℕ → ℕ → Bool
is_dtls first second = between type_low first type_high && eqb second dtls_major

-- RFC 5246 E.2: the length's top bit, the type CLIENT-HELLO, and a version of SSL 2.0, or 0x0300 on
abbrev pub is_ssl2 : ℕ → ℕ → ℕ → Bool
is_ssl2 first third fourth =
    between ssl2_top first ssl2_last && (eqb third ssl2_client_hello && (eqb fourth ssl2_major || eqb fourth tls_major))

-- 0 to 9, a to f, A to F
abbrev pub is_hex_digit : ℕ → Bool
is_hex_digit b = between 0x30 b 0x39 || (between 0x61 b 0x66 || between 0x41 b 0x46)

-- a space, a tab, and the ends of lines
abbrev pub is_blank : ℕ → Bool
is_blank b = eqb b space || (eqb b tab || (eqb b line_feed || eqb b carriage_return))

-- what stands in bytes that are written in hex: digits, blanks and colons
abbrev pub is_text : ℕ → Bool
is_text b = is_hex_digit b || (is_blank b || eqb b colon)

-- each of the four bytes
abbrev pub is_hex : ℕ → ℕ → ℕ → ℕ → Bool
is_hex first second third fourth = is_text first && (is_text second && (is_text third && is_text fourth))

-- what stands beside the first test that holds, else the other
abbrev pub first_that : {A : Type 0} → List (Bool × A) → A → A
first_that [] other = other
first_that ((holds, a) ∷ tests) other = pick holds a (first_that tests other)

-- four bytes and their number. The order counts: 0a 0d 0d 0a are blanks too, and are PcapNg
unfoldable pub first_kind : ℕ → ℕ → ℕ → ℕ → ℕ → InputKind
first_kind n first second third fourth =
    first_that
    ((is_pcap n, Pcap)
    ∷ (eqb n pcap_ng, PcapNg)
    ∷ (is_gzip first second third, Gzip)
    ∷ (is_dtls first second, Dtls)
    ∷ (is_ssl2 first third fourth, Ssl2)
    ∷ (is_hex first second third fourth, Hex)
    ∷ [])
    Records

-- an input of fewer than four bytes is taken for records
unfoldable pub input_kind : List ℕ → InputKind
input_kind s =
    pick (leb 4 (length s)) (first_kind (be 4 s 0) (get_or s 0 0) (get_or s 1 0) (get_or s 2 0) (get_or s 3 0)) Records
