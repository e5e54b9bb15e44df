-- Error numbers of Linux.
use Rattle.std.specs.Prelude.{ℕ, ℤ, [], ◌∷◌, List, codes, pos, negsuc, zero, suc}
use Rattle.fuse_wire.specs.ErrorNumbers.{EPERM, ENOENT, ESRCH, EINTR, EIO, ENXIO, E2BIG, ENOEXEC, EBADF, ECHILD, EAGAIN, ENOMEM}
use Rattle.fuse_wire.specs.ErrorNumbers.{EACCES, EFAULT, ENOTBLK, EBUSY, EEXIST, EXDEV, ENODEV, ENOTDIR, EISDIR, EINVAL, ENFILE}
use Rattle.fuse_wire.specs.ErrorNumbers.{EMFILE, ENOTTY, ETXTBSY, EFBIG, ENOSPC, ESPIPE, EROFS, EMLINK, EPIPE, EDOM, ERANGE}
use Rattle.fuse_wire.specs.ErrorNumbers.{EDEADLK, ENAMETOOLONG, ENOLCK, ENOSYS, ENOTEMPTY, ELOOP, ENOMSG, EIDRM, ENODATA, EREMOTE}
use Rattle.fuse_wire.specs.ErrorNumbers.{ENOLINK, EPROTO, EMULTIHOP, EBADMSG, EOVERFLOW, EILSEQ, EUSERS, ENOTSOCK, EDESTADDRREQ}
use Rattle.fuse_wire.specs.ErrorNumbers.{EMSGSIZE, EPROTOTYPE, ENOPROTOOPT, EPROTONOSUPPORT, ESOCKTNOSUPPORT, EOPNOTSUPP}
use Rattle.fuse_wire.specs.ErrorNumbers.{EPFNOSUPPORT, EAFNOSUPPORT, EADDRINUSE, EADDRNOTAVAIL, ENETDOWN, ENETUNREACH, ENETRESET}
use Rattle.fuse_wire.specs.ErrorNumbers.{ECONNABORTED, ECONNRESET, ENOBUFS, EISCONN, ENOTCONN, ESHUTDOWN, ETOOMANYREFS, ETIMEDOUT}
use Rattle.fuse_wire.specs.ErrorNumbers.{ECONNREFUSED, EHOSTDOWN, EHOSTUNREACH, EALREADY, EINPROGRESS, ESTALE, EDQUOT, ECANCELED}
use Rattle.fuse_wire.specs.ErrorNumbers.{EOWNERDEAD, ENOTRECOVERABLE}

-- the error of a number: `EIO` where it is not positive
abbrev pub errno_from : ℤ → ℕ
errno_from (pos zero) = EIO
errno_from (pos (suc n)) = suc n
errno_from (negsuc n) = EIO

-- the names of errors, each with the number that Linux has for it (`asm-generic/errno-base.h` and `asm-generic/errno.h`);
-- `ENOTSUP` is the C library's, and `NO_XATTR` is this library's, for what a file without an attribute answers
abbrev pub named_numbers : List (List ℕ × ℕ)
named_numbers =
    (codes "EPERM", EPERM)
    ∷ (codes "ENOENT", ENOENT)
    ∷ (codes "ESRCH", ESRCH)
    ∷ (codes "EINTR", EINTR)
    ∷ (codes "EIO", EIO)
    ∷ (codes "ENXIO", ENXIO)
    ∷ (codes "E2BIG", E2BIG)
    ∷ (codes "ENOEXEC", ENOEXEC)
    ∷ (codes "EBADF", EBADF)
    ∷ (codes "ECHILD", ECHILD)
    ∷ (codes "EAGAIN", EAGAIN)
    ∷ (codes "ENOMEM", ENOMEM)
    ∷ (codes "EACCES", EACCES)
    ∷ (codes "EFAULT", EFAULT)
    ∷ (codes "ENOTBLK", ENOTBLK)
    ∷ (codes "EBUSY", EBUSY)
    ∷ (codes "EEXIST", EEXIST)
    ∷ (codes "EXDEV", EXDEV)
    ∷ (codes "ENODEV", ENODEV)
    ∷ (codes "ENOTDIR", ENOTDIR)
    ∷ (codes "EISDIR", EISDIR)
    ∷ (codes "EINVAL", EINVAL)
    ∷ (codes "ENFILE", ENFILE)
    ∷ (codes "EMFILE", EMFILE)
    ∷ (codes "ENOTTY", ENOTTY)
    ∷ (codes "ETXTBSY", ETXTBSY)
    ∷ (codes "EFBIG", EFBIG)
    ∷ (codes "ENOSPC", ENOSPC)
    ∷ (codes "ESPIPE", ESPIPE)
    ∷ (codes "EROFS", EROFS)
    ∷ (codes "EMLINK", EMLINK)
    ∷ (codes "EPIPE", EPIPE)
    ∷ (codes "EDOM", EDOM)
    ∷ (codes "ERANGE", ERANGE)
    ∷ (codes "EDEADLK", EDEADLK)
    ∷ (codes "ENAMETOOLONG", ENAMETOOLONG)
    ∷ (codes "ENOLCK", ENOLCK)
    ∷ (codes "ENOSYS", ENOSYS)
    ∷ (codes "ENOTEMPTY", ENOTEMPTY)
    ∷ (codes "ELOOP", ELOOP)
    ∷ (codes "EWOULDBLOCK", EAGAIN)
    ∷ (codes "ENOMSG", ENOMSG)
    ∷ (codes "EIDRM", EIDRM)
    ∷ (codes "ENODATA", ENODATA)
    ∷ (codes "NO_XATTR", ENODATA)
    ∷ (codes "EREMOTE", EREMOTE)
    ∷ (codes "ENOLINK", ENOLINK)
    ∷ (codes "EPROTO", EPROTO)
    ∷ (codes "EMULTIHOP", EMULTIHOP)
    ∷ (codes "EBADMSG", EBADMSG)
    ∷ (codes "EOVERFLOW", EOVERFLOW)
    ∷ (codes "EILSEQ", EILSEQ)
    ∷ (codes "EUSERS", EUSERS)
    ∷ (codes "ENOTSOCK", ENOTSOCK)
    ∷ (codes "EDESTADDRREQ", EDESTADDRREQ)
    ∷ (codes "EMSGSIZE", EMSGSIZE)
    ∷ (codes "EPROTOTYPE", EPROTOTYPE)
    ∷ (codes "ENOPROTOOPT", ENOPROTOOPT)
    ∷ (codes "EPROTONOSUPPORT", EPROTONOSUPPORT)
    ∷ (codes "ESOCKTNOSUPPORT", ESOCKTNOSUPPORT)
    ∷ (codes "EOPNOTSUPP", EOPNOTSUPP)
    ∷ (codes "ENOTSUP", EOPNOTSUPP)
    ∷ (codes "EPFNOSUPPORT", EPFNOSUPPORT)
    ∷ (codes "EAFNOSUPPORT", EAFNOSUPPORT)
    ∷ (codes "EADDRINUSE", EADDRINUSE)
    ∷ (codes "EADDRNOTAVAIL", EADDRNOTAVAIL)
    ∷ (codes "ENETDOWN", ENETDOWN)
    ∷ (codes "ENETUNREACH", ENETUNREACH)
    ∷ (codes "ENETRESET", ENETRESET)
    ∷ (codes "ECONNABORTED", ECONNABORTED)
    ∷ (codes "ECONNRESET", ECONNRESET)
    ∷ (codes "ENOBUFS", ENOBUFS)
    ∷ (codes "EISCONN", EISCONN)
    ∷ (codes "ENOTCONN", ENOTCONN)
    ∷ (codes "ESHUTDOWN", ESHUTDOWN)
    ∷ (codes "ETOOMANYREFS", ETOOMANYREFS)
    ∷ (codes "ETIMEDOUT", ETIMEDOUT)
    ∷ (codes "ECONNREFUSED", ECONNREFUSED)
    ∷ (codes "EHOSTDOWN", EHOSTDOWN)
    ∷ (codes "EHOSTUNREACH", EHOSTUNREACH)
    ∷ (codes "EALREADY", EALREADY)
    ∷ (codes "EINPROGRESS", EINPROGRESS)
    ∷ (codes "ESTALE", ESTALE)
    ∷ (codes "EDQUOT", EDQUOT)
    ∷ (codes "ECANCELED", ECANCELED)
    ∷ (codes "EOWNERDEAD", EOWNERDEAD)
    ∷ (codes "ENOTRECOVERABLE", ENOTRECOVERABLE)
    ∷ []
