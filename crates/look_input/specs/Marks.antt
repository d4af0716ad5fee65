-- The numbers that the first four bytes of an input are told by.
use Rattle.refusal.specs.{ℕ}

-- libpcap's pcap-savefile: a capture file in microseconds, big-endian
abbrev pub pcap : ℕ
pcap = 0xa1b2c3d4

-- the same, little-endian
abbrev pub pcap_swapped : ℕ
pcap_swapped = 0xd4c3b2a1

-- the same in nanoseconds, big-endian
abbrev pub pcap_nano : ℕ
pcap_nano = 0xa1b23c4d

-- the same in nanoseconds, little-endian
abbrev pub pcap_nano_swapped : ℕ
pcap_nano_swapped = 0x4d3cb2a1

-- draft-ietf-opsawg-pcapng 4.1: the type of a Section Header Block, the same in either byte order
abbrev pub pcap_ng : ℕ
pcap_ng = 0x0a0d0d0a

-- RFC 1952 2.3.1: ID1
abbrev pub gzip_id1 : ℕ
gzip_id1 = 0x1f

-- RFC 1952 2.3.1: ID2
abbrev pub gzip_id2 : ℕ
gzip_id2 = 0x8b

-- RFC 1952 2.3.1: CM, where it is deflate
abbrev pub gzip_deflate : ℕ
gzip_deflate = 0x08

-- RFC 5246 6.2.1: change_cipher_spec, the lowest type of a record
abbrev pub type_low : ℕ
type_low = 0x14

-- RFC 9146 3: tls12_cid, the highest type of a record
abbrev pub type_high : ℕ
type_high = 0x19

-- RFC 6347 4.1: the first byte of 0xfeff, and of what is counted down from there
abbrev pub dtls_major : ℕ
dtls_major = 0xfe

-- RFC 5246 E.2: the top bit of a length of two bytes
abbrev pub ssl2_top : ℕ
ssl2_top = 0x80

-- the same of a hello of 256 to 511 bytes: no longer one is looked for, since a record whose type
-- is damaged would be taken for it
abbrev pub ssl2_last : ℕ
ssl2_last = 0x81

-- RFC 5246 E.2: CLIENT-HELLO
abbrev pub ssl2_client_hello : ℕ
ssl2_client_hello = 0x01

-- the first byte of the version 0x0002, SSL 2.0's
abbrev pub ssl2_major : ℕ
ssl2_major = 0x00

-- RFC 5246 E.2: the first byte of the versions from 0x0300 on
abbrev pub tls_major : ℕ
tls_major = 0x03

-- a blank between bytes that are written in hex
abbrev pub space : ℕ
space = 0x20

-- another blank
abbrev pub tab : ℕ
tab = 0x09

-- what ends a line
abbrev pub line_feed : ℕ
line_feed = 0x0a

-- what stands before a line feed in some texts
abbrev pub carriage_return : ℕ
carriage_return = 0x0d

-- what often stands between two bytes that are written in hex
abbrev pub colon : ℕ
colon = 0x3a
