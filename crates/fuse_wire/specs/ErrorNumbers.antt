-- The numbers of the errors that `Errno` names (`asm-generic/errno-base.h` and `asm-generic/errno.h` of Linux). A promise of a
-- filesystem names its errors by them.
use Rattle.std.specs.Prelude.{ℕ}

abbrev pub EPERM : ℕ
EPERM = 1

abbrev pub ENOENT : ℕ
ENOENT = 2

abbrev pub ESRCH : ℕ
ESRCH = 3

abbrev pub EINTR : ℕ
EINTR = 4

abbrev pub EIO : ℕ
EIO = 5

abbrev pub ENXIO : ℕ
ENXIO = 6

abbrev pub E2BIG : ℕ
E2BIG = 7

abbrev pub ENOEXEC : ℕ
ENOEXEC = 8

abbrev pub EBADF : ℕ
EBADF = 9

abbrev pub ECHILD : ℕ
ECHILD = 10

abbrev pub EAGAIN : ℕ
EAGAIN = 11

abbrev pub ENOMEM : ℕ
ENOMEM = 12

abbrev pub EACCES : ℕ
EACCES = 13

abbrev pub EFAULT : ℕ
EFAULT = 14

abbrev pub ENOTBLK : ℕ
ENOTBLK = 15

abbrev pub EBUSY : ℕ
EBUSY = 16

abbrev pub EEXIST : ℕ
EEXIST = 17

abbrev pub EXDEV : ℕ
EXDEV = 18

abbrev pub ENODEV : ℕ
ENODEV = 19

abbrev pub ENOTDIR : ℕ
ENOTDIR = 20

abbrev pub EISDIR : ℕ
EISDIR = 21

abbrev pub EINVAL : ℕ
EINVAL = 22

abbrev pub ENFILE : ℕ
ENFILE = 23

abbrev pub EMFILE : ℕ
EMFILE = 24

abbrev pub ENOTTY : ℕ
ENOTTY = 25

abbrev pub ETXTBSY : ℕ
ETXTBSY = 26

abbrev pub EFBIG : ℕ
EFBIG = 27

abbrev pub ENOSPC : ℕ
ENOSPC = 28

abbrev pub ESPIPE : ℕ
ESPIPE = 29

abbrev pub EROFS : ℕ
EROFS = 30

abbrev pub EMLINK : ℕ
EMLINK = 31

abbrev pub EPIPE : ℕ
EPIPE = 32

abbrev pub EDOM : ℕ
EDOM = 33

abbrev pub ERANGE : ℕ
ERANGE = 34

abbrev pub EDEADLK : ℕ
EDEADLK = 35

abbrev pub ENAMETOOLONG : ℕ
ENAMETOOLONG = 36

abbrev pub ENOLCK : ℕ
ENOLCK = 37

abbrev pub ENOSYS : ℕ
ENOSYS = 38

abbrev pub ENOTEMPTY : ℕ
ENOTEMPTY = 39

abbrev pub ELOOP : ℕ
ELOOP = 40

abbrev pub ENOMSG : ℕ
ENOMSG = 42

abbrev pub EIDRM : ℕ
EIDRM = 43

abbrev pub ENODATA : ℕ
ENODATA = 61

abbrev pub EREMOTE : ℕ
EREMOTE = 66

abbrev pub ENOLINK : ℕ
ENOLINK = 67

abbrev pub EPROTO : ℕ
EPROTO = 71

abbrev pub EMULTIHOP : ℕ
EMULTIHOP = 72

abbrev pub EBADMSG : ℕ
EBADMSG = 74

abbrev pub EOVERFLOW : ℕ
EOVERFLOW = 75

abbrev pub EILSEQ : ℕ
EILSEQ = 84

abbrev pub EUSERS : ℕ
EUSERS = 87

abbrev pub ENOTSOCK : ℕ
ENOTSOCK = 88

abbrev pub EDESTADDRREQ : ℕ
EDESTADDRREQ = 89

abbrev pub EMSGSIZE : ℕ
EMSGSIZE = 90

abbrev pub EPROTOTYPE : ℕ
EPROTOTYPE = 91

abbrev pub ENOPROTOOPT : ℕ
ENOPROTOOPT = 92

abbrev pub EPROTONOSUPPORT : ℕ
EPROTONOSUPPORT = 93

abbrev pub ESOCKTNOSUPPORT : ℕ
ESOCKTNOSUPPORT = 94

abbrev pub EOPNOTSUPP : ℕ
EOPNOTSUPP = 95

abbrev pub EPFNOSUPPORT : ℕ
EPFNOSUPPORT = 96

abbrev pub EAFNOSUPPORT : ℕ
EAFNOSUPPORT = 97

abbrev pub EADDRINUSE : ℕ
EADDRINUSE = 98

abbrev pub EADDRNOTAVAIL : ℕ
EADDRNOTAVAIL = 99

abbrev pub ENETDOWN : ℕ
ENETDOWN = 100

abbrev pub ENETUNREACH : ℕ
ENETUNREACH = 101

abbrev pub ENETRESET : ℕ
ENETRESET = 102

abbrev pub ECONNABORTED : ℕ
ECONNABORTED = 103

abbrev pub ECONNRESET : ℕ
ECONNRESET = 104

abbrev pub ENOBUFS : ℕ
ENOBUFS = 105

abbrev pub EISCONN : ℕ
EISCONN = 106

abbrev pub ENOTCONN : ℕ
ENOTCONN = 107

abbrev pub ESHUTDOWN : ℕ
ESHUTDOWN = 108

abbrev pub ETOOMANYREFS : ℕ
ETOOMANYREFS = 109

abbrev pub ETIMEDOUT : ℕ
ETIMEDOUT = 110

abbrev pub ECONNREFUSED : ℕ
ECONNREFUSED = 111

abbrev pub EHOSTDOWN : ℕ
EHOSTDOWN = 112

abbrev pub EHOSTUNREACH : ℕ
EHOSTUNREACH = 113

abbrev pub EALREADY : ℕ
EALREADY = 114

abbrev pub EINPROGRESS : ℕ
EINPROGRESS = 115

abbrev pub ESTALE : ℕ
ESTALE = 116

abbrev pub EDQUOT : ℕ
EDQUOT = 122

abbrev pub ECANCELED : ℕ
ECANCELED = 125

abbrev pub EOWNERDEAD : ℕ
EOWNERDEAD = 130

abbrev pub ENOTRECOVERABLE : ℕ
ENOTRECOVERABLE = 131
