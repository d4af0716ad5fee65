-- The versions that a ServerHello is opened by: RULES 3.
use Rattle.refusal.specs.{ℕ}

-- RFC 6101 5.6.1.3
abbrev pub ssl30 : ℕ
ssl30 = 0x0300

-- RFC 2246 7.4.1.3
abbrev pub tls10 : ℕ
tls10 = 0x0301

-- RFC 4346 7.4.1.3
abbrev pub tls11 : ℕ
tls11 = 0x0302

-- RFC 5246 7.4.1.3
abbrev pub tls12 : ℕ
tls12 = 0x0303

-- draft-ietf-tls-tls13-18 4.1.3
abbrev pub tls13_draft18 : ℕ
tls13_draft18 = 0x7f12
